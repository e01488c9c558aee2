use Prim.Native.Nat.{◌-◌, ◌≤◌}
use Rattle.model.specs.Limits.{most_nets}
use Rattle.chip_array.specs.Array.{net_in}
use Rattle.chip_array.proofs.Tables.{Filled}
use Rattle.chip_array.proofs.nets_in.Given as goal

abbrev pub invariant-loop-i : goal.invariant-loop-i
invariant-loop-i l = Filled (net_in l.cs) most_nets l.nets l.i
