use Rattle.axis_solve.proofs.Slacks.{Scanned}
use Rattle.axis_solve.proofs.growth.least_leaving.Given as goal

-- the first i slots were looked through
abbrev pub invariant-loop-i : goal.invariant-loop-i
invariant-loop-i l = Scanned l.g.slots l.g.m l.f l.x l.rank l.i l.best
