use Rattle.std.proofs.Common.{◌<◌}
use Rattle.half_fit.proofs.none.on_chain.Given as goal

abbrev pub invariant-loop : goal.invariant-loop
invariant-loop l = l.w < 9
