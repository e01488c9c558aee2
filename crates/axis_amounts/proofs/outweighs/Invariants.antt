use mathlib.Core.Path.{◌≡◌}
use Rattle.flow_laws.specs.Flow.{weigh}
use Rattle.axis_bounds.specs.Listed.{pluses, minuses}
use Rattle.axis_graph.specs.Graph.{at}
use Rattle.axis_amounts.proofs.outweighs.Given as goal

-- the pluses and the minuses of the first i slots that carry
abbrev pub invariant-loop-i : goal.invariant-loop-i
invariant-loop-i l = (l.p ≡ weigh (pluses l.g.slots) (at l.f) l.i) × (l.q ≡ weigh (minuses l.g.slots) (at l.f) l.i)
