use Rattle.half_fit.specs.Chain.{Chained}
use Rattle.std.proofs.Common.{◌*◌, ◌<◌, ◌≤◌}
use Rattle.half_fit.proofs.none.closes.Given as goal

abbrev pub invariant-loop-turn : goal.invariant-loop-turn
invariant-loop-turn l = (l.w < 9) × Chained l.arcs l.w l.a l.sum l.turn × (l.sum ≤ l.turn * 33554432)
