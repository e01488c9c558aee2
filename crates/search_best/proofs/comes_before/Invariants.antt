use Rattle.search_best.proofs.Earlier.{FromCorner}
use Rattle.search_best.proofs.comes_before.Given as goal

abbrev pub invariant-loop-i : goal.invariant-loop-i
invariant-loop-i l = FromCorner l.n l.a l.m l.b l.i
