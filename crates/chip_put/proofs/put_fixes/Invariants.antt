use Prim.Native.Nat.{◌-◌, ◌≤◌}
use mathlib.Core.Path.{◌≡◌}
use mathlib.Core.List.{flat_map}
use lib.ListN.{take}
use lib.Seq.{sets}
use Rattle.model.specs.Limits.{most_fixes}
use Rattle.chip_array.specs.Array.{fixes_at}
use Rattle.chip_put.specs.Numbers.{fix_numbers}
use Rattle.chip_put.proofs.put_fixes.Given as goal

abbrev pub invariant-loop-i : goal.invariant-loop-i
invariant-loop-i l = l.cs ≡ sets l.initial.cs fixes_at (flat_map fix_numbers (take l.i l.fixes))
