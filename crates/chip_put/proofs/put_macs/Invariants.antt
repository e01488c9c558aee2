use Prim.Native.Nat.{◌-◌, ◌≤◌}
use mathlib.Core.Path.{◌≡◌}
use mathlib.Core.List.{flat_map}
use lib.ListN.{take}
use lib.Seq.{sets}
use Rattle.model.specs.Limits.{most_macs}
use Rattle.chip_array.specs.Array.{macs_at}
use Rattle.chip_put.specs.Numbers.{mac_numbers}
use Rattle.chip_put.proofs.put_macs.Given as goal

abbrev pub invariant-loop-i : goal.invariant-loop-i
invariant-loop-i l = l.cs ≡ sets l.initial.cs macs_at (flat_map mac_numbers (take l.i l.macs))
