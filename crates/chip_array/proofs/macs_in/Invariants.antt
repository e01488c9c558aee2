use Prim.Native.Nat.{◌-◌, ◌≤◌}
use Rattle.model.specs.Limits.{most_macs}
use Rattle.chip_array.specs.Array.{mac_in}
use Rattle.chip_array.proofs.Tables.{Filled}
use Rattle.chip_array.proofs.macs_in.Given as goal

abbrev pub invariant-loop-i : goal.invariant-loop-i
invariant-loop-i l = Filled (mac_in l.cs) most_macs l.macs l.i
