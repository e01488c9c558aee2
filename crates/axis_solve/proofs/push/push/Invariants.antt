use Rattle.axis_graph.specs.Graph.{at}
use Rattle.axis_solve.specs.Push.{Walked}
use Rattle.axis_solve.proofs.push.push.Given as goal

-- the walk stands at c; ranks fall on the way to the start
abbrev pub invariant-loop-c : goal.invariant-loop-c
invariant-loop-c l = Walked l.g l.fn.f l.w l.initial.c l.q l.f l.c

abbrev pub decreases-loop-c : goal.decreases-loop-c
decreases-loop-c l = at l.w.rank l.c
