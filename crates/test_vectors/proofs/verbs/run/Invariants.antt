use mathlib.Core.Path.{◌≡◌}
use Prim.Native.Nat.{◌≤◌, ◌-◌, ◌+◌}
use lib.ListN.{length}
use Rattle.test_vectors.proofs.verbs.run.Given as goal

abbrev pub invariant-loop-i : goal.invariant-loop-i
invariant-loop-i l = (l.i ≤ length l.s + 1) × (length l.text ≡ 65536)

abbrev pub decreases-loop-i : goal.decreases-loop-i
decreases-loop-i l = length l.s + 1 - l.i
