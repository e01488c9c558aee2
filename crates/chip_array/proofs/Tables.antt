-- Lists by their elements f 0, f 1 and so on: filling an array with them, and that a list is such a list.
use Prim.Native.Nat.{ℕ, zero, suc, ◌+◌, ◌≤◌, ◌<◌}
use mathlib.Core.Path.{◌≡◌, refl, sym, ap, ◌∙◌}
use mathlib.Core.List.{List, [], ◌∷◌, ◌++◌}
use native.Mathlib.Nat.{le_of_suc-le-suc}
use native.Mathlib.Numerals.{add-one}
use native.Mathlib.Omega.{arith}
use lib.ListN.{length, get_or, take, set, length-set}
use lib.Seq.{take-suc-set, take_all, ext_get_or}
use Rattle.chip_array.specs.Array.{tabulate}

module _ {A : Type 0} where
  pub length_tabulate : (f : ℕ → A) (n : ℕ) → length (tabulate f n) ≡ n
  unfolding tabulate
  length_tabulate f zero = refl
  length_tabulate f (suc n) = ap suc (length_tabulate (λ i. f (suc i)) n)

  pub get_d_tabulate : (f : ℕ → A) (n i : ℕ) (z : A) → i < n → get_or (tabulate f n) i z ≡ f i
  unfolding tabulate
  get_d_tabulate f zero i z h = absurd (omega arith)
  get_d_tabulate f (suc n) zero z h = refl
  get_d_tabulate f (suc n) (suc i) z h = get_d_tabulate (λ j. f (suc j)) n i z (le_of_suc-le-suc h)

  -- one element more, at the end
  tabulate_suc : (f : ℕ → A) (n : ℕ) → tabulate f (suc n) ≡ tabulate f n ++ (f n ∷ [])
  unfolding tabulate
  tabulate_suc f zero = refl
  tabulate_suc f (suc n) = ap (λ (t : List A). f 0 ∷ t) (tabulate_suc (λ i. f (suc i)) n)

  -- a list is the list of its elements
  pub tabulate_of : (f : ℕ → A) (n : ℕ) (xs : List A) (z : A) → length xs ≡ n
      → ((i : ℕ) → i < n → f i ≡ get_or xs i z) → tabulate f n ≡ xs
  tabulate_of f n xs z e at =
      let l = length_tabulate f n in
      ext_get_or z (tabulate f n) xs (l ∙ sym e) (λ i h. let g : i < n = omega arith in get_d_tabulate f n i z g ∙ at i g)

  -- an array of n elements, the first i of which are f 0, f 1 ..
  pub record Filled (f : ℕ → A) (n : ℕ) (s : List A) (i : ℕ) : Type 0 where
    pub long : length s ≡ n
    pub are : take i s ≡ tabulate f i

  pub filled_none : (f : ℕ → A) (n : ℕ) (s : List A) → length s ≡ n → Filled f n s 0
  unfolding tabulate
  filled_none f n s l = record { long = l; are = refl }

  pub filled_more : (f : ℕ → A) (n : ℕ) (s : List A) (i : ℕ) (a : A) → i < n → a ≡ f i → Filled f n s i → Filled f n (set s i a) (i + 1)
  filled_more f n s i a h q e =
      let l = e.long in
      record {
        long = length-set s i a ∙ l;
        are = rw (add-one, q) (take-suc-set s i (f i) (omega arith) ∙ ap (λ (t : List A). t ++ (f i ∷ [])) e.are ∙ sym (tabulate_suc f i));
      }

  pub filled_all : (f : ℕ → A) (n : ℕ) (s : List A) (i : ℕ) → i ≤ n → n ≤ i → Filled f n s i → s ≡ tabulate f n
  filled_all f n s i h g e =
      let q : i ≡ n = omega arith in
      let l = e.long in
      sym (take_all i s (omega arith)) ∙ e.are ∙ ap (tabulate f) q
