-- The first n items of a list, as a count and an array hold them.
use mathlib.Core.Path.{◌≡◌, refl, ap}
use mathlib.Core.List.{List, [], ◌∷◌, ◌++◌}
use Prim.Native.Nat.{ℕ, zero, suc, ◌+◌, ◌≤◌, ◌<◌}
use native.Mathlib.Nat.{le_of_suc-le-suc}
use native.Mathlib.Numerals.{add-one}
use native.Mathlib.Omega.{arith}
use lib.ListN.{length, get_or, take, set}
use Rattle.model.specs.Meaning.{first_of}
use Rattle.model.specs.Counted.{item_count}

module _ {A : Type 0} (z : A) where
  pub first_take : (n : ℕ) (s : List A) → n ≤ length s → first_of z n s ≡ take n s
  unfolding first_of
  first_take zero s h = refl
  first_take (suc n) [] h = absurd (omega arith)
  first_take (suc n) (a ∷ s) h = ap (λ (t : List A). a ∷ t) (first_take n s (le_of_suc-le-suc h))

  -- how many items they are; a count within the list counts them
  pub first_length : (n : ℕ) (s : List A) → length (first_of z n s) ≡ item_count n (length s)
  unfolding first_of
  first_length zero s = omega arith
  first_length (suc n) [] = omega arith
  first_length (suc n) (a ∷ s) = let q = first_length n s in omega arith

  pub length_first : (n : ℕ) (s : List A) → n ≤ length s → length (first_of z n s) ≡ n
  length_first n s h = let q = first_length n s in omega arith

  -- one item more in front of the items that are kept
  pub first_suc : (n : ℕ) (s : List A) → n < length s → first_of z (suc n) s ≡ first_of z n s ++ (get_or s n z ∷ [])
  unfolding first_of
  first_suc n [] h = absurd (omega arith)
  first_suc zero (a ∷ s) h = refl
  first_suc (suc n) (a ∷ s) h = ap (λ (t : List A). a ∷ t) (first_suc n s (le_of_suc-le-suc h))

  pub first_kept : (n i : ℕ) (s : List A) (a : A) → n ≤ i → first_of z n (set s i a) ≡ first_of z n s
  unfolding first_of
  first_kept zero i s a h = refl
  first_kept (suc n) i [] a h = refl
  first_kept (suc n) zero (b ∷ s) a h = absurd (omega arith)
  first_kept (suc n) (suc i) (b ∷ s) a h = ap (λ (t : List A). b ∷ t) (first_kept n i s a (le_of_suc-le-suc h))

  first_put : (n : ℕ) (s : List A) (a : A) → n < length s → first_of z (suc n) (set s n a) ≡ first_of z n s ++ (a ∷ [])
  unfolding first_of
  first_put n [] a h = absurd (omega arith)
  first_put zero (b ∷ s) a h = refl
  first_put (suc n) (b ∷ s) a h = ap (λ (t : List A). b ∷ t) (first_put n s a (le_of_suc-le-suc h))

  -- an item stored at the end
  pub first_set : (n : ℕ) (s : List A) (a : A) → n < length s → first_of z (n + 1) (set s n a) ≡ first_of z n s ++ (a ∷ [])
  first_set n s a h = rw add-one (first_put n s a h)

  -- a count past the last item stands for one item too many
  pub first_past : (n : ℕ) (s : List A) → length s < n → first_of z n s ≡ s ++ (z ∷ [])
  unfolding first_of
  first_past zero s h = absurd (omega arith)
  first_past (suc n) [] h = refl
  first_past (suc n) (a ∷ s) h = ap (λ (t : List A). a ∷ t) (first_past n s (le_of_suc-le-suc h))

  pub get_d_first : (n : ℕ) (s : List A) (i : ℕ) → i < n → get_or (first_of z n s) i z ≡ get_or s i z
  unfolding first_of
  get_d_first zero s i h = absurd (omega arith)
  get_d_first (suc n) [] zero h = refl
  get_d_first (suc n) [] (suc i) h = refl
  get_d_first (suc n) (a ∷ s) zero h = refl
  get_d_first (suc n) (a ∷ s) (suc i) h = get_d_first n s i (le_of_suc-le-suc h)

  -- a count past the items would make one item too many
  pub first_within : (n : ℕ) (s : List A) → length (first_of z n s) ≤ length s → n ≤ length s
  first_within n s h = let q = first_length n s in omega arith

  pub first_some : (n : ℕ) (s : List A) → 0 < length (first_of z n s) → 0 < n
  first_some n s h = let q = first_length n s in omega arith
