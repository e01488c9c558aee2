use mathlib.Core.Path.{◌≡◌}
use Prim.Native.Nat.{◌-◌, ◌≤◌}
use lib.ListN.{length, take}
use Rattle.placement.specs.Legal.{boxes}
use Rattle.legal.proofs.boxes_at.Given as goal

abbrev pub invariant-loop-i : goal.invariant-loop-i
invariant-loop-i l = (length l.bs ≡ 8) × (take l.i l.bs ≡ take l.i (boxes l.macs l.spots))
