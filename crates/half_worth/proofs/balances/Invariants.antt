use Rattle.half_worth.specs.Tests.{Level}
use Rattle.half_worth.proofs.balances.Given as goal

abbrev pub invariant-loop-k : goal.invariant-loop-k
invariant-loop-k l = Level l.b.into l.e.low l.b.out l.e.high l.k
