-- The items that a count stands for: as many as the array holds, and at most one blank item after them.
use mathlib.Core.Path.{◌≡◌, refl, sym}
use mathlib.Core.List.{List, [], ◌∷◌, map}
use Prim.Native.Nat.{ℕ, zero, suc, ◌-◌, ◌≤◌, ◌<◌}
use native.Mathlib.Decide.{dec_lt}
use native.Mathlib.Omega.{arith}
use lib.ListN.{length, get_or, drop, drop_of_length-le, get_or-eq_default}
use lib.Seq.{drop-cons}
use Rattle.model.specs.Meaning.{first_of}
use Rattle.model.specs.Counted.{item_count}
use Rattle.text_put.specs.Run.{run}

module _ {A : Type 0} (z : A) (s : List A) where
  -- past the array there are blank items
  pub blank_past : (i n : ℕ) → length s ≡ n → n ≤ i → z ≡ get_or s i z
  blank_past i n e h = sym (get_or-eq_default s z (rw e h))

  -- the items that the count k means, of the array from number q on; g makes an item of each thing and its number
  module _ {B : Type 0} (item : ℕ → A → B) (g : ℕ → List A → List B) (none : (q : ℕ) → g q [] ≡ []) (more : (q : ℕ) (a : A) (t : List A) → g q (a ∷ t) ≡ item q a ∷ g (suc q) t) where
    pub numbered_run : (k q : ℕ) → q ≤ length s → g q (first_of z k (drop q s)) ≡ run (λ i. item i (get_or s i z)) q (item_count k (length s - q))
    unfolding first_of run
    numbered_run zero q h = let e : item_count 0 (length s - q) ≡ 0 = omega arith in rw (e, none q)
    numbered_run (suc k) q h = by (dec_lt q (length s)) (numbered_run k (suc q))
      where
        by : Dec (q < length s) → (suc q ≤ length s → g (suc q) (first_of z k (drop (suc q) s)) ≡ run (λ i. item i (get_or s i z)) (suc q) (item_count k (length s - suc q))) → g q (first_of z (suc k) (drop q s)) ≡ run (λ i. item i (get_or s i z)) q (item_count (suc k) (length s - q))
        by (yes l) ih = let e : item_count (suc k) (length s - q) ≡ suc (item_count k (length s - suc q)) = omega arith in rw (drop-cons s q z l, e, more q (get_or s q z) (first_of z k (drop (suc q) s)), ih (omega arith))
        by (no l) ih = let e : item_count (suc k) (length s - q) ≡ 1 = omega arith in rw (drop_of_length-le s {i = q} (omega arith), e, more q z [], none (suc q), get_or-eq_default s z {n = q} (omega arith))

  -- the same, whatever the numbers
  pub first_run : {B : Type 0} (item : A → B) (k q : ℕ) → q ≤ length s → map item (first_of z k (drop q s)) ≡ run (λ i. item (get_or s i z)) q (item_count k (length s - q))
  first_run item k q h = numbered_run (λ q a. item a) (λ q t. map item t) (λ q. refl) (λ q a t. refl) k q h
