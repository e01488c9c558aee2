-- The tests of a chip and a record held as values are those of what the values mean, where the chip is an accepted one: `tests_same`.
use Prim.Native.Nat.{ℕ}
use mathlib.Core.Path.{◌≡◌, refl, sym, ap, ◌∙◌}
use mathlib.Core.Bool.{Bool, true, false}
use mathlib.Core.List.{List, [], ◌∷◌}
use native.Mathlib.Decide.{ℕ_discrete}
use lib.Dec.{eqb}
use lib.ListN.{length, take}
use borrow.Author.Tests.{eq-eqb, ne_eqb}
use Rattle.model.specs.declared.Chip.{Chip as HeldChip}
use Rattle.model.specs.declared.Record.{Record as HeldRecord}
use Rattle.model.specs.declared.Outcome.{Outcome}
use Rattle.model.specs.declared.Outcome.TheVariants as outcome
use Rattle.model.specs.declared.Spot.{Spot}
use Rattle.model.specs.Meaning.{least, chip_of, outcome_of, record_of, first_of, blank_spot}
use Rattle.refusals.specs.Tests.{test, first_failed}
use Rattle.refusals.proofs.FirstFailed.{fails_here, fails_later}
use Rattle.chip_text.specs.Passed.{Passed}
use Rattle.chip_text.proofs.Passing.{Whole}
use Rattle.placement.specs.Legal.{legal}
use Rattle.placement.specs.Integers.{legal_z, wirelength_z, integers}
use Rattle.placement.proofs.Integers.{legal_same, length_same}
use Rattle.placement.proofs.LengthBound.{wirelength_bound}
use Rattle.placement.proofs.Nearby.{legal_near}
use Rattle.measure_tests.proofs.Faults.{counted, its_spots, as_many}
use Rattle.legal.specs.Turn.{legal_held}
use Rattle.measure_held.specs.Held.{length_held}
use Rattle.measure.proofs.IsLegal.{legal_told}
use Rattle.measure.proofs.HeldNet.{length_whole}
use Rattle.beside_tests.specs.Held.{outcome_tests, held_tests}
use Rattle.beside_check.specs.Beside.{beside_tests}

module _ (c : HeldChip) (p : Passed c) (w : Whole c) (s : List Spot) (l : length s ≡ 8) where
  -- whether the positions of the macros are legal
  legal_is : legal_held c s ≡ legal (chip_of c) (take c.n s)
  legal_is = legal_told c p.fine s w.fixes w.macs l

  module _ (wl count : ℕ) where
    abbrev its : List Spot
    its = first_of blank_spot count s

    module _ (e : count ≡ c.n) where
      its_legal : legal_z (chip_of c) (integers its) ≡ legal_held c s
      its_legal = ap (λ (ps : List Spot). legal_z (chip_of c) (integers ps)) (its_spots c p s l count e) ∙ (legal_same (chip_of c) (take c.n s) ∙ sym legal_is)

      -- legal positions are in the range of measuring, so no number of a length reaches its limit
      its_length : legal_held c s ≡ true → wirelength_z (chip_of c) (integers its) ≡ length_held c s
      its_length h =
          let near = legal_near (chip_of c) (take c.n s) (sym legal_is ∙ h) p.valid in
          let few = wirelength_bound (chip_of c) (take c.n s) p.valid near in
          ap (λ (ps : List Spot). wirelength_z (chip_of c) (integers ps)) (its_spots c p s l count e)
          ∙ (length_same (chip_of c) (take c.n s)
          ∙ sym (length_whole c p.fine s near w.nets w.pins few))

    placement_same : first_failed (outcome_tests c (outcome.Least wl count) s) ≡ first_failed (beside_tests (chip_of c) (least wl its))
    placement_same = by (ℕ_discrete count c.n)
      where
        by : Dec (count ≡ c.n) → first_failed (outcome_tests c (outcome.Least wl count) s) ≡ first_failed (beside_tests (chip_of c) (least wl its))
        by (no n) = sym (fails_here 13 _ _ (ne_eqb count c.n n)) ∙ fails_here 13 _ _ (ne_eqb (length its) (length (chip_of c).macs) (λ e. n (counted c p s l count e)))
        by (yes e) = on (legal_held c s) refl
          where
            on : (b : Bool) → legal_held c s ≡ b → first_failed (outcome_tests c (outcome.Least wl count) s) ≡ first_failed (beside_tests (chip_of c) (least wl its))
            on false q =
                sym (fails_later 13 _ _ 16 (eq-eqb count c.n e) (fails_here 16 _ _ q))
                ∙ fails_later 13 _ _ 16 (as_many c p s l count e) (fails_here 16 _ _ (its_legal e ∙ q))
            on true q =
                sym (fails_later 13 _ _ _ (eq-eqb count c.n e) (fails_later 16 _ _ _ q (ap (λ (m : ℕ). first_failed (test 17 (eqb wl m) ∷ [])) (its_length e q))))
                ∙ fails_later 13 _ _ _ (as_many c p s l count e) (fails_later 16 _ _ _ (its_legal e ∙ q) refl)

  outcome_same : (o : Outcome) → first_failed (outcome_tests c o s) ≡ first_failed (beside_tests (chip_of c) (outcome_of o s))
  outcome_same outcome.None = refl
  outcome_same (outcome.Least wl count) = placement_same wl count

module _ (c : HeldChip) (p : Passed c) (w : Whole c) (r : HeldRecord) (l : length r.spots ≡ 8) where
  pub tests_same : first_failed (held_tests c r) ≡ first_failed (beside_tests (chip_of c) (record_of r))
  unfolding record_of
  tests_same = outcome_same c p w r.spots l r.outcome
