-- 13, 14, or none, in the form of the needs of `positions_fault`.
use mathlib.Core.Path.{◌≡◌, sym, ap, ◌∙◌}
use mathlib.Core.Bool.{Bool, true, false, not}
use mathlib.Core.List.{List}
use Prim.Native.Nat.{ℕ, ◌≤◌}
use native.Mathlib.Decide.{dec_le}
use native.Mathlib.Omega.{arith}
use lib.Dec.{eqb}
use lib.ListN.{length, take, length-append}
use borrow.Author.Tests.{eq-eqb, ne_eqb, not-true, not-false}
use Rattle.model.specs.declared.Spot.{Spot}
use Rattle.model.specs.declared.Chip.{Chip as HeldChip}
use Rattle.model.specs.Meaning.{chip_of, first_of, blank_spot}
use Rattle.model.proofs.FirstOf.{first_take, first_past, length_first}
use Rattle.refusals.specs.Tests.{first_failed}
use Rattle.refusals.proofs.FirstFailed.{none_failed, fails_here, fails_later}
use Rattle.chip_text.specs.Passed.{Passed}
use Rattle.measure_tests.specs.Positions.{in_range, measure_tests}

module _ (c : HeldChip) (p : Passed c) where
  few_macros : c.n ≤ 8
  few_macros = p.fine.mac_count

  module _ (s : List Spot) (l : length s ≡ 8) (count : ℕ) where
    -- as many positions as macros
    pub counted : length (first_of blank_spot count s) ≡ length (chip_of c).macs → count ≡ c.n
    counted e = by (dec_le count 8)
      where
        by : Dec (count ≤ 8) → count ≡ c.n
        by (yes h) = sym (length_first blank_spot count s (omega arith)) ∙ e ∙ p.macs
        by (no h) =
            let a : length (first_of blank_spot count s) ≡ 9 = rw (first_past blank_spot count s (omega arith), length-append, l) in
            let b = p.macs in
            absurd (omega (arith, few_macros))

    pub wrong_count : (count ≡ c.n → ⊥) → 13 ≡ first_failed (measure_tests (chip_of c) (first_of blank_spot count s))
    wrong_count n = fails_here 13 _ _ (ne_eqb (length (first_of blank_spot count s)) (length (chip_of c).macs) (λ e. n (counted e)))

    module _ (e : count ≡ c.n) where
      pub its_spots : first_of blank_spot count s ≡ take c.n s
      its_spots = rw e (first_take blank_spot c.n s (omega (arith, few_macros)))

      pub as_many : eqb (length (first_of blank_spot count s)) (length (chip_of c).macs) ≡ true
      as_many = eq-eqb _ _ (length_first blank_spot count s (omega (arith, few_macros)) ∙ e ∙ sym p.macs)

      module _ (r : Bool) (q : r ≡ in_range (take c.n s)) where
        its_range : in_range (first_of blank_spot count s) ≡ r
        its_range = ap in_range its_spots ∙ sym q

        pub out_of_range_law : not r ≡ true → 14 ≡ first_failed (measure_tests (chip_of c) (first_of blank_spot count s))
        out_of_range_law h = fails_later 13 _ _ 14 as_many (fails_here 14 _ _ (its_range ∙ not-true r h))

        pub all_pass : not r ≡ false → 0 ≡ first_failed (measure_tests (chip_of c) (first_of blank_spot count s))
        all_pass h = fails_later 13 _ _ 0 as_many (fails_later 14 _ _ 0 (its_range ∙ not-false r h) none_failed)
