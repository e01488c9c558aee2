use Rattle.axis_solve.specs.Growth.{outside}
use Rattle.axis_solve.proofs.Reaches.{Reaching}
use Rattle.axis_solve.proofs.augment.reach.Given as goal

-- the growth goes on; nodes outside get fewer
abbrev pub invariant-loop-w : goal.invariant-loop-w
invariant-loop-w l = Reaching l.g l.f l.fn.w.start l.w

abbrev pub decreases-loop-w : goal.decreases-loop-w
decreases-loop-w l = outside l.w.rank l.g.n
