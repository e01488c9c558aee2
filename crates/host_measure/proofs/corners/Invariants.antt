use Prim.Native.Nat.{◌-◌, ◌≤◌}
use Rattle.host_measure.proofs.CornersRead.{CornersTo}
use Rattle.host_measure.proofs.corners.Given as goal

abbrev pub invariant-loop-i : goal.invariant-loop-i
invariant-loop-i l = CornersTo l.list l.spots l.i
