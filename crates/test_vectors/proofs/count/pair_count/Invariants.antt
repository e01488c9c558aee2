use Prim.Native.Nat.{◌*◌, ◌≤◌, ◌-◌}
use Rattle.test_vectors.proofs.count.pair_count.Given as goal

abbrev pub invariant-loop-i : goal.invariant-loop-i
invariant-loop-i l = (l.k ≤ 8) × (l.p ≤ 16 * l.i)
