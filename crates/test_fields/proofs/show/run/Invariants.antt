use Prim.Native.Nat.{◌≤◌, ◌+◌, ◌-◌}
use lib.ListN.{length}
use Rattle.test_fields.proofs.show.run.Given as goal

abbrev pub invariant-loop-a : goal.invariant-loop-a
invariant-loop-a l = (l.a ≤ length l.text + 1) × (l.line ≤ l.a + 1)

abbrev pub decreases-loop-a : goal.decreases-loop-a
decreases-loop-a l = length l.text + 1 - l.a
