use Prim.Native.Nat.{◌-◌, ◌≤◌}
use mathlib.Core.Path.{◌≡◌}
use mathlib.Core.List.{flat_map}
use lib.ListN.{take}
use lib.Seq.{sets}
use Rattle.model.specs.Limits.{most_pins}
use Rattle.chip_array.specs.Array.{pins_at}
use Rattle.chip_put.specs.Numbers.{pin_numbers}
use Rattle.chip_put.proofs.put_pins.Given as goal

abbrev pub invariant-loop-i : goal.invariant-loop-i
invariant-loop-i l = l.cs ≡ sets l.initial.cs pins_at (flat_map pin_numbers (take l.i l.pins))
