use Prim.Native.Nat.{◌-◌, ◌≤◌}
use mathlib.Core.Path.{◌≡◌}
use mathlib.Core.List.{flat_map}
use lib.ListN.{take}
use lib.Seq.{sets}
use Rattle.model.specs.Limits.{most_nets}
use Rattle.chip_array.specs.Array.{nets_at}
use Rattle.chip_put.specs.Numbers.{net_numbers}
use Rattle.chip_put.proofs.put_nets.Given as goal

abbrev pub invariant-loop-i : goal.invariant-loop-i
invariant-loop-i l = l.cs ≡ sets l.initial.cs nets_at (flat_map net_numbers (take l.i l.nets))
