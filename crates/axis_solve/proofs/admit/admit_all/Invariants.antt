use Rattle.axis_solve.proofs.AllBounds.{Admitting}
use Rattle.axis_solve.proofs.admit.admit_all.Given as goal

-- the bounds below j are in g, and x keeps them
abbrev pub invariant-loop-j : goal.invariant-loop-j
invariant-loop-j l = Admitting l.fn.g l.full l.to l.g l.x l.j
