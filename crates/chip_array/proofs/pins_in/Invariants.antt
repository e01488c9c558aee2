use Prim.Native.Nat.{◌-◌, ◌≤◌}
use Rattle.model.specs.Limits.{most_pins}
use Rattle.chip_array.specs.Array.{pin_in}
use Rattle.chip_array.proofs.Tables.{Filled}
use Rattle.chip_array.proofs.pins_in.Given as goal

abbrev pub invariant-loop-i : goal.invariant-loop-i
invariant-loop-i l = Filled (pin_in l.cs) most_pins l.pins l.i
