use Prim.Native.Nat.{◌≤◌, ◌-◌}
use Rattle.test_vectors.proofs.count.pin_count.Given as goal

abbrev pub invariant-loop-j : goal.invariant-loop-j
invariant-loop-j l = l.q ≤ 128
