-- 13, 16, 17, or none, in the form of the needs.
use Prim.Native.Nat.{ℕ}
use mathlib.Core.Path.{◌≡◌, sym, ◌∙◌}
use mathlib.Core.Bool.{Bool, true, false, not}
use mathlib.Core.List.{List, [], ◌∷◌}
use lib.Dec.{eqb}
use borrow.Author.Tests.{eq-eqb, ne_eqb, not-true, not-false}
use Rattle.model.specs.declared.Chip.{Chip as HeldChip}
use Rattle.model.specs.declared.Record.{Record as HeldRecord}
use Rattle.model.specs.declared.Outcome.{Outcome}
use Rattle.model.specs.declared.Outcome.TheVariants as outcome
use Rattle.model.specs.declared.Spot.{Spot}
use Rattle.refusals.specs.Tests.{test, first_failed}
use Rattle.refusals.proofs.FirstFailed.{none_failed, fails_here, fails_later}
use Rattle.legal.specs.Turn.{legal_held}
use Rattle.measure_held.specs.Held.{length_held}
use Rattle.beside_tests.specs.Held.{outcome_tests, held_tests}

module _ (c : HeldChip) (s : List Spot) (wl count : ℕ) where
  abbrev first : ℕ
  first = first_failed (outcome_tests c (outcome.Least wl count) s)

  pub other_count : (count ≡ c.n → ⊥) → 13 ≡ first
  other_count n = fails_here 13 _ _ (ne_eqb count c.n n)

  module _ (e : count ≡ c.n) (b : Bool) (q : b ≡ legal_held c s) where
    pub illegal : not b ≡ true → 16 ≡ first
    illegal h = fails_later 13 _ _ 16 (eq-eqb count c.n e) (fails_here 16 _ _ (sym q ∙ not-true b h))

    module _ (h : not b ≡ false) (m : ℕ) (g : m ≡ length_held c s) where
      by_length : (r : ℕ) → r ≡ first_failed (test 17 (eqb wl (length_held c s)) ∷ []) → r ≡ first
      by_length r k = fails_later 13 _ _ r (eq-eqb count c.n e) (fails_later 16 _ _ r (sym q ∙ not-false b h) k)

      pub other_length_law : (wl ≡ m → ⊥) → 17 ≡ first
      other_length_law n = by_length 17 (fails_here 17 _ _ (ne_eqb wl (length_held c s) (λ k. n (k ∙ sym g))))

      pub all_pass : wl ≡ m → 0 ≡ first
      all_pass k = by_length 0 (fails_later 17 _ _ 0 (eq-eqb wl (length_held c s) (k ∙ g)) none_failed)

-- of a record
module _ (c : HeldChip) (r : HeldRecord) where
  pub none_passes : r.outcome ≡ outcome.None → 0 ≡ first_failed (held_tests c r)
  none_passes q = rw q none_failed

  pub placement_tested : (o : Outcome) → r.outcome ≡ o → (n : ℕ) → n ≡ first_failed (outcome_tests c o r.spots) → n ≡ first_failed (held_tests c r)
  placement_tested o q n e = rw q e
