use Rattle.half_worth.specs.Tests.{Given}
use Rattle.half_worth.proofs.gives_weights.Given as goal

abbrev pub invariant-loop-j : goal.invariant-loop-j
invariant-loop-j l = Given l.tab l.e.hi l.e.lo l.j
