use Rattle.fit_slots.specs.Fit.{are_letters}
use lib.ListN.{length, drop}
use mathlib.Core.Path.{◌≡◌}
use Prim.Native.Nat.{◌-◌, ◌≤◌}
use Rattle.fit_faults.proofs.are_letters.Given as goal

abbrev pub invariant-loop-i : goal.invariant-loop-i
invariant-loop-i l = are_letters l.letters ≡ are_letters (drop l.i l.letters)
