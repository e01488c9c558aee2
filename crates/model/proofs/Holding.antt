-- Items in an array with blank ones past them: one more, another in its place, and the list that the array is filled from.
use mathlib.Core.Path.{◌≡◌, refl, sym, ap, ap₂, ◌∙◌}
use mathlib.Core.List.{List, [], ◌∷◌, ◌++◌}
use Prim.Native.Nat.{ℕ, zero, suc, ◌+◌, ◌-◌, ◌≤◌, ◌<◌, zero-le}
use native.Mathlib.Nat.{le_of_suc-le-suc, sub-zero}
use native.Mathlib.Omega.{arith}
use lib.ListN.{length, get_or, set, replicate, length-set, length-replicate}
use lib.Seq.{get_or-set_other}
use Rattle.model.specs.Meaning.{first_of}
use Rattle.model.specs.Counted.{Holds}
use Rattle.model.specs.Held.{filled}
use Rattle.model.proofs.FirstOf.{length_first}

module _ {A : Type 0} {blank : A} {most n : ℕ} {items : List A} (h : Holds blank most n items) where
  pub holds_more : (a : A) → n < most → Holds blank most (n + 1) (set items n a)
  holds_more a l =
      record {
        few = omega arith;
        long = length-set items n a ∙ h.long;
        rest = λ i g. get_or-set_other items n i a blank (λ e. absurd (omega arith)) ∙ h.rest i (omega arith);
      }

  pub holds_set : (i : ℕ) (a : A) → i < n → Holds blank most n (set items i a)
  holds_set i a l =
      record {
        few = h.few;
        long = length-set items i a ∙ h.long;
        rest = λ j g. get_or-set_other items i j a blank (λ e. absurd (omega arith)) ∙ h.rest j g;
      }

  pub holds_all : n ≤ length items
  holds_all = omega (arith, h.few, h.long)

  pub fits_in : n < most → n < length items
  fits_in l = omega (arith, h.long)

module _ {A : Type 0} (blank : A) where
  all_blank : (s : List A) → ((i : ℕ) → get_or s i blank ≡ blank) → replicate (length s) blank ≡ s
  all_blank [] r = refl
  all_blank (a ∷ s) r = ap₂ ◌∷◌ (sym (r 0)) (all_blank s (λ i. r (suc i)))

  fill : (s : List A) (n : ℕ) → n ≤ length s → ((i : ℕ) → n ≤ i → get_or s i blank ≡ blank) → first_of blank n s ++ replicate (length s - n) blank ≡ s
  unfolding first_of
  fill s zero h r = rw sub-zero (all_blank s (λ i. r i zero-le))
  fill [] (suc n) h r = absurd (omega arith)
  fill (a ∷ s) (suc n) h r =
      let e : suc (length s) - suc n ≡ length s - n = omega arith in
      rw e (ap (λ (t : List A). a ∷ t) (fill s n (le_of_suc-le-suc h) (λ i g. r (suc i) (omega arith))))

  pub filled_again : (most n : ℕ) (s : List A) → Holds blank most n s → filled most blank (first_of blank n s) ≡ s
  filled_again most n s h = rw (length_first blank n s (holds_all h), ← h.long) (fill s n (holds_all h) h.rest)

  none_there : (n i : ℕ) → get_or (replicate n blank) i blank ≡ blank
  none_there zero i = refl
  none_there (suc n) zero = refl
  none_there (suc n) (suc i) = none_there n i

  pub holds_none : (most : ℕ) → Holds blank most 0 (replicate most blank)
  holds_none most = record { few = zero-le; long = length-replicate most blank; rest = λ i g. none_there most i }
