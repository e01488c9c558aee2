-- The macros: those before i have passed, and are at most 8.
use Prim.Native.Nat.{◌≤◌, ◌-◌}
use Rattle.record_test.proofs.SpotsRead.{LeftFrom}
use Rattle.record_test.proofs.test_least.Given as goal

abbrev pub invariant-loop-i : goal.invariant-loop-i
invariant-loop-i l = (l.i ≤ 8) × LeftFrom l.wl l.n l.spots l.i
