use Prim.Native.Nat.{◌-◌, ◌≤◌}
use Rattle.host_lists.proofs.CornersStored.{Stored}
use Rattle.host_lists.proofs.put_corners.Given as goal

abbrev pub invariant-loop-i : goal.invariant-loop-i
invariant-loop-i l = (l.i ≤ l.n) × Stored l.initial.list l.spots l.list l.i
