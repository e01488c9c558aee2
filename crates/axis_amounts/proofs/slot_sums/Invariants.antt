use Rattle.axis_bounds.specs.Listed.{tails, heads}
use Rattle.axis_graph.specs.Graph.{at}
use Rattle.axis_amounts.specs.Amounts.{no_sums, Summed}
use Rattle.axis_amounts.proofs.slot_sums.Given as goal

-- the sums of the first i slots
abbrev pub invariant-loop-i : goal.invariant-loop-i
invariant-loop-i l = Summed no_sums no_sums (heads l.g.slots) (tails l.g.slots) (at l.f) l.i l.into l.out
