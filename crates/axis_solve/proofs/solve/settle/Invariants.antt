use Rattle.axis_solve.specs.Growth.{outside}
use Rattle.axis_solve.proofs.Reaches.{Reaching}
use Rattle.axis_solve.proofs.solve.settle.Given as goal

-- the growth goes on; nodes outside get fewer
abbrev pub invariant-loop-next : goal.invariant-loop-next
invariant-loop-next l = Reaching l.g l.f l.fn.w.start l.w

abbrev pub decreases-loop-next : goal.decreases-loop-next
decreases-loop-next l = outside l.w.rank l.g.n
