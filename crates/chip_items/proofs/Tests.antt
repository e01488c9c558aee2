-- The loops over items of one kind: what they have left to test, each answer, and that items that pass keep to their count.
use Rattle.std.specs.Prelude.{Ok, Err, Result}
use Rattle.model.specs.declared.Refusal.{Refusal}
use mathlib.Core.Path.{◌≡◌, refl, sym, ◌∙◌}
use Prim.Native.Nat.{ℕ, zero, suc, ◌+◌, ◌-◌, ◌≤◌, ◌<◌}
use native.Mathlib.Decide.{dec_lt}
use native.Mathlib.Nat.{sub-zero}
use native.Mathlib.Numerals.{add-one}
use native.Mathlib.Omega.{arith}
use lib.Dec.{ltb}
use borrow.Author.Tests.{le-ltb}
use Rattle.model.specs.declared.Chip.{Chip as HeldChip}
use Rattle.text_grammar.specs.Steps.{need}
use Rattle.chip_faults.specs.declared.Row.{Row}
use Rattle.chip_faults.specs.declared.Row.TheVariants as row
use Rattle.chip_faults.specs.Faults.{row_fault}
use Rattle.chip_items.specs.Tests.{on_fault, tests}

pub refused_at_law : (a line : ℕ) (more : Result (Unit {0}) Refusal) → (a ≡ 0 → ⊥) → Err (record { no = a; line = line }) ≡ on_fault a line more
refused_at_law zero line more h = absurd (h refl)
refused_at_law (suc n) line more h = refl

pub passed_fault : (a line : ℕ) (more : Result (Unit {0}) Refusal) → on_fault a line more ≡ Ok tt → (a ≡ 0) × (more ≡ Ok tt)
passed_fault zero line more e = (refl, e)
passed_fault (suc a) line more e = let w : ◌≡◌ {A = ℕ} 0 1 = cc in absurd (omega arith)

-- an item without a fault is within the count
module _ (a count more : ℕ) where
  pub in_count : (i : ℕ) → a ≡ need (ltb i count) 6 more → a ≡ 0 → i < count
  in_count i e z = by (dec_lt i count)
    where
      by : Dec (i < count) → i < count
      by (yes h) = h
      by (no h) = let q : need (ltb i count) 6 more ≡ 6 = rw (le-ltb i count (omega arith)) in absurd (omega arith)

  pub one_more : (i : ℕ) → a ≡ need (ltb i count) 6 more → a ≡ 0 → i + 1 ≤ count
  one_more i e z = let h = in_count i e z in omega arith

-- an item without a fault is one of the greatest number of pins
pub row_more : (c : HeldChip) (w : Row) (q i a : ℕ) → a ≡ row_fault c w (q + i) → a ≡ 0 → q + (i + 1) ≤ 128
row_more c row.Fixes q i a e z = let h = in_count a 8 _ (q + i) e z in omega arith
row_more c row.Macs q i a e z = let h = in_count a 8 _ (q + i) e z in omega arith
row_more c row.Pins q i a e z = let h = in_count a 128 _ (q + i) e z in omega arith

module _ (f : ℕ → ℕ) (line n : ℕ) where
  abbrev pub LeftFrom : ℕ → Type 0
  LeftFrom i = tests f line 0 n ≡ tests f line i (n - i)

  pub none_tested : LeftFrom 0
  none_tested = rw sub-zero

  module _ (i : ℕ) (left : LeftFrom i) where
    pub all_tested : n ≤ i → Ok tt ≡ tests f line 0 n
    unfolding tests
    all_tested h = let e : n - i ≡ 0 = omega arith in rw (left, e)

    module _ (h : i < n) (a : ℕ) (e : a ≡ f i) where
      next_tested : tests f line 0 n ≡ on_fault a (line + i) (tests f line (suc i) (n - suc i))
      unfolding tests
      next_tested = let q : n - i ≡ suc (n - suc i) = omega arith in rw (left, q, e)

      pub item_refused : (a ≡ 0 → ⊥) → Err (record { no = a; line = line + i }) ≡ tests f line 0 n
      item_refused z = refused_at_law a (line + i) _ z ∙ sym next_tested

      pub item_passed : a ≡ 0 → LeftFrom (i + 1)
      item_passed z = next_tested ∙ rw (z, add-one)

-- items that pass leave none over the count
pub within_count : (f : ℕ → ℕ) (line i n count : ℕ) → f count ≡ 6 → i ≤ count → tests f line i n ≡ Ok tt → i + n ≤ count
unfolding tests
within_count f line i zero count z h e = omega arith
within_count f line i (suc n) count z h e =
    let q = passed_fault (f i) (line + i) (tests f line (suc i) n) e in
    let l : i ≡ count → ⊥ = λ c. (let w : f count ≡ 0 = rw (← c) q.0 in omega arith) in
    let r = within_count f line (suc i) n count z (omega arith) q.1 in
    omega arith
