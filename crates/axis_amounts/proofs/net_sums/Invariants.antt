use Rattle.axis_graph.specs.Solved.{los, his, weights}
use Rattle.axis_amounts.specs.Amounts.{Summed}
use Rattle.axis_amounts.proofs.net_sums.Given as goal

-- the weights of the first nets besides
abbrev pub invariant-loop-p : goal.invariant-loop-p
invariant-loop-p l = Summed l.initial.into l.initial.out (los l.fn.nets) (his l.fn.nets) (weights l.fn.nets) l.p-index l.into l.out
