use Prim.Native.Nat.{◌-◌, ◌≤◌}
use Rattle.model.specs.Limits.{most_fixes}
use Rattle.chip_array.specs.Array.{fix_in}
use Rattle.chip_array.proofs.Tables.{Filled}
use Rattle.chip_array.proofs.fixes_in.Given as goal

abbrev pub invariant-loop-i : goal.invariant-loop-i
invariant-loop-i l = Filled (fix_in l.cs) most_fixes l.fixes l.i
