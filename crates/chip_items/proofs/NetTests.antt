-- One net with its pins, and the loop over nets: what it has left to test, and each answer.
use Rattle.std.specs.Prelude.{Ok, Err, Result}
use mathlib.Core.Path.{◌≡◌, refl, sym, ◌∙◌}
use mathlib.Core.Bool.{Bool, true, false, not}
use Prim.Native.Nat.{ℕ, suc, ◌+◌, ◌-◌, ◌≤◌, ◌<◌}
use native.Mathlib.Nat.{sub-zero}
use native.Mathlib.Numerals.{add-one}
use native.Mathlib.Omega.{arith}
use lib.ListN.{get_or}
use mir.Syntax.{w64}
use mir.Val.{Fits}
use borrow.Author.Tests.{le-ltb}
use Rattle.model.specs.declared.Refusal.{Refusal}
use Rattle.model.specs.declared.Chip.{Chip as HeldChip}
use Rattle.model.specs.Meaning.{blank_net}
use Rattle.text_grammar.specs.Steps.{need}
use Rattle.chip_faults.specs.declared.Row.TheVariants as row
use Rattle.chip_faults.specs.Faults.{bare_before, net_fault, row_fault}
use Rattle.chip_items.specs.Tests.{on_fault, then_tested, row_tested, net_tested, nets_tested}
use Rattle.chip_items.proofs.Tests.{refused_at_law, passed_fault, in_count, one_more, within_count}

module _ (c : HeldChip) (line q j : ℕ) where
  module _ (a : ℕ) (e : a ≡ net_fault c.nets j) where
    pub net_refused : (a ≡ 0 → ⊥) → Err (record { no = a; line = line }) ≡ net_tested c line q j
    net_refused z = rw (← e) (refused_at_law a line _ z)

    pub pins_answer : a ≡ 0 → (r : Result (Unit {0}) Refusal) → r ≡ row_tested c row.Pins q (line + 1) (get_or c.nets j blank_net).pins → r ≡ net_tested c line q j
    pins_answer z r f = rw (← e, z) f

  -- a net that passes keeps to the counts of nets and of pins
  module _ (r : Result (Unit {0}) Refusal) (e : r ≡ net_tested c line q j) (p : r ≡ Ok tt) where
    both_passed : (net_fault c.nets j ≡ 0) × (row_tested c row.Pins q (line + 1) (get_or c.nets j blank_net).pins ≡ Ok tt)
    both_passed = passed_fault (net_fault c.nets j) line (row_tested c row.Pins q (line + 1) (get_or c.nets j blank_net).pins) (sym e ∙ p)

    pub net_in_count : j < 32
    net_in_count = in_count (net_fault c.nets j) 32 _ j refl both_passed.0

    pub one_net_more : j + 1 ≤ 32
    one_net_more = one_more (net_fault c.nets j) 32 _ j refl both_passed.0

    module _ (h : q ≤ 128) where
      pub few_pins : q + (get_or c.nets j blank_net).pins ≤ 128
      few_pins =
          let l = within_count (λ i. row_fault c row.Pins (q + i)) (line + 1) 0 (get_or c.nets j blank_net).pins (128 - q) (rw (le-ltb (q + (128 - q)) 128 (omega arith))) (omega arith) both_passed.1 in
          omega arith

      pub pins_fit : Fits w64 (q + (get_or c.nets j blank_net).pins)
      pins_fit = let l = few_pins in omega arith

module _ (c : HeldChip) (first t : ℕ) where
  abbrev pub NetsLeft : ℕ → ℕ → Type 0
  NetsLeft q j = nets_tested c first 0 0 t ≡ nets_tested c first q j (t - j)

  pub no_net_tested : NetsLeft 0 0
  no_net_tested = rw sub-zero

  module _ (q j : ℕ) (left : NetsLeft q j) where
    module _ (h : j ≡ t) (r : Bool) (e : r ≡ bare_before c.nets t) where
      nets_ended : nets_tested c first 0 0 t ≡ on_fault (need (not r) 7 0) (first + t + q) (Ok tt)
      unfolding nets_tested
      nets_ended = let z : t - j ≡ 0 = omega arith in rw (left, z, e, h)

      pub end_refused : r ≡ true → Err (record { no = 7; line = first + t + q }) ≡ nets_tested c first 0 0 t
      end_refused b = rw (nets_ended, b)

      pub end_passed : r ≡ false → Ok tt ≡ nets_tested c first 0 0 t
      end_passed b = rw (nets_ended, b)

    module _ (h : j < t) (r : Result (Unit {0}) Refusal) (e : r ≡ net_tested c (first + j + q) q j) where
      next_net : nets_tested c first 0 0 t ≡ then_tested r (nets_tested c first (q + (get_or c.nets j blank_net).pins) (suc j) (t - suc j))
      unfolding nets_tested
      next_net = let s : t - j ≡ suc (t - suc j) = omega arith in rw (left, s, e)

      pub net_refuses : (w : Refusal) → r ≡ Err w → r ≡ nets_tested c first 0 0 t
      net_refuses w p = rw (next_net, p)

      pub net_passes : r ≡ Ok tt → NetsLeft (q + (get_or c.nets j blank_net).pins) (j + 1)
      net_passes p = next_net ∙ rw (p, add-one)
