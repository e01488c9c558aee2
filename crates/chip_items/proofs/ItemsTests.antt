-- The items of a chip from the die to the end: each answer, and the line on which the next kind of item begins.
use Rattle.std.specs.Prelude.{Ok, Err, Result}
use mathlib.Core.Path.{◌≡◌, refl, sym, ◌∙◌}
use Prim.Native.Nat.{ℕ, ◌+◌, ◌≤◌}
use native.Mathlib.Omega.{arith}
use mir.Syntax.{w64}
use mir.Val.{Fits}
use Rattle.model.specs.declared.Refusal.{Refusal}
use Rattle.model.specs.declared.Chip.{Chip as HeldChip}
use Rattle.chip_faults.specs.declared.Row.TheVariants as row
use Rattle.chip_faults.specs.Faults.{die_fault, row_fault}
use Rattle.chip_items.specs.Tests.{row_tested, nets_tested, items_tested}
use Rattle.chip_items.proofs.Tests.{refused_at_law, within_count}

module _ (c : HeldChip) where
  module _ (a : ℕ) (e : a ≡ die_fault c.die) where
    pub die_refused : (a ≡ 0 → ⊥) → Err (record { no = a; line = 1 }) ≡ items_tested c
    unfolding items_tested
    die_refused z = rw (← e) (refused_at_law a 1 _ z)

    module _ (z : a ≡ 0) (r : Result (Unit {0}) Refusal) (f : r ≡ row_tested c row.Fixes 0 2 c.k) where
      pub fixes_refused : (w : Refusal) → r ≡ Err w → r ≡ items_tested c
      unfolding items_tested
      fixes_refused w p = rw (← e, z, ← f, p)

      module _ (p : r ≡ Ok tt) (s : Result (Unit {0}) Refusal) (g : s ≡ row_tested c row.Macs 0 (c.k + 2) c.n) where
        pub macs_refused : (w : Refusal) → s ≡ Err w → s ≡ items_tested c
        unfolding items_tested
        macs_refused w q = rw (← e, z, ← f, p, ← g, q)

        pub nets_answer : s ≡ Ok tt → (t : Result (Unit {0}) Refusal) → t ≡ nets_tested c (c.k + 2 + c.n) 0 0 c.t → t ≡ items_tested c
        unfolding items_tested
        nets_answer q t h = rw (← e, z, ← f, p, ← g, q, ← h)

-- fixes and macros that pass keep to their counts
module _ (c : HeldChip) (r : Result (Unit {0}) Refusal) (f : r ≡ row_tested c row.Fixes 0 2 c.k) (p : r ≡ Ok tt) where
  few_fixes_law : c.k ≤ 8
  few_fixes_law = let l = within_count (λ i. row_fault c row.Fixes (0 + i)) 2 0 c.k 8 refl (omega arith) (sym f ∙ p) in omega arith

  pub macs_line : c.k + 2 ≤ 200
  macs_line = let l = few_fixes_law in omega arith

  pub macs_line_fits : Fits w64 (c.k + 2)
  macs_line_fits = let l = few_fixes_law in omega arith

  module _ (s : Result (Unit {0}) Refusal) (g : s ≡ row_tested c row.Macs 0 (c.k + 2) c.n) (q : s ≡ Ok tt) where
    few_macs : c.n ≤ 8
    few_macs = let l = within_count (λ i. row_fault c row.Macs (0 + i)) (c.k + 2) 0 c.n 8 refl (omega arith) (sym g ∙ q) in omega arith

    pub nets_line : c.k + 2 + c.n ≤ 18
    nets_line = let l = few_fixes_law in let m = few_macs in omega arith

    pub nets_line_fits : Fits w64 (c.k + 2 + c.n)
    nets_line_fits = let l = few_fixes_law in let m = few_macs in omega arith
