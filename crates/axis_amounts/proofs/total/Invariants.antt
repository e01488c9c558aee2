use mathlib.Core.Path.{◌≡◌}
use Rattle.num_laws.specs.Sum.{sum}
use Rattle.axis_graph.specs.Solved.{weights}
use Rattle.axis_amounts.proofs.total.Given as goal

-- the weights of the first nets
abbrev pub invariant-loop-p : goal.invariant-loop-p
invariant-loop-p l = l.w ≡ sum (weights l.fn.nets) l.p-index
