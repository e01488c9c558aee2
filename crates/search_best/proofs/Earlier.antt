-- Comparing two placements corner by corner: the corners before i are equal, and those from i on decide.
use mathlib.Core.Path.{◌≡◌, refl, sym, ap, ◌∙◌}
use mathlib.Core.Bool.{Bool, false, or-false}
use mathlib.Core.Logic.{◌⊎◌, inl, inr}
use mathlib.Core.List.{List, [], ◌∷◌}
use Prim.Native.Nat.{ℕ, zero, suc, ◌+◌, ◌≤◌, ◌<◌, min}
use native.Mathlib.Nat.{le_of_suc-le-suc}
use native.Mathlib.Numerals.{add-one}
use native.Mathlib.Omega.{arith}
use native.Mathlib.Decide.{dec_lt}
use lib.Dec.{ltb}
use lib.ListN.{length, get_or, drop}
use borrow.Author.Tests.{le-ltb, eq-eqb, ne_eqb}
use Rattle.model.specs.declared.Spot.{Spot}
use Rattle.model.specs.Meaning.{first_of, blank_spot}
use Rattle.placement.specs.Order.{keys, first_smaller, before}

abbrev corners : ℕ → List Spot → List Spot
corners = first_of blank_spot

-- the corners from i on
from_next : (n : ℕ) (a : List Spot) (i : ℕ) → i < n → i < length a → drop i (corners n a) ≡ get_or a i blank_spot ∷ drop (suc i) (corners n a)
unfolding first_of
from_next zero a i h l = absurd (omega arith)
from_next (suc n) [] i h l = absurd (omega arith)
from_next (suc n) (p ∷ a) zero h l = refl
from_next (suc n) (p ∷ a) (suc i) h l = from_next n a i (le_of_suc-le-suc h) (le_of_suc-le-suc l)

from_past : (n : ℕ) (a : List Spot) (i : ℕ) → n ≤ i → drop i (corners n a) ≡ []
unfolding first_of
from_past zero a zero h = refl
from_past zero a (suc i) h = refl
from_past (suc n) a zero h = absurd (omega arith)
from_past (suc n) [] (suc zero) h = refl
from_past (suc n) [] (suc (suc i)) h = refl
from_past (suc n) (p ∷ a) (suc i) h = from_past n a i (le_of_suc-le-suc h)

-- behind the last corner of the array stands nothing, or a blank one
from_blank : (n : ℕ) (a : List Spot) (i : ℕ) → length a ≤ i → (drop i (corners n a) ≡ []) ⊎ (drop i (corners n a) ≡ blank_spot ∷ [])
unfolding first_of
from_blank zero a i h = inl (from_past zero a i (omega arith))
from_blank (suc n) [] zero h = inr refl
from_blank (suc n) [] (suc i) h = inl (from_past zero [] i (omega arith))
from_blank (suc n) (p ∷ a) zero h = absurd (omega arith)
from_blank (suc n) (p ∷ a) (suc i) h = from_blank n a i (le_of_suc-le-suc h)

not_before_none : (ps : List Spot) → before ps [] ≡ false
unfolding keys first_smaller
not_before_none [] = refl
not_before_none (p ∷ ps) = refl

none_before : (ps : List Spot) → before [] ps ≡ false
unfolding keys first_smaller
none_before ps = refl

blank_alike : before (blank_spot ∷ []) (blank_spot ∷ []) ≡ false
unfolding keys first_smaller
blank_alike = refl

module _ (n : ℕ) (a : List Spot) (m : ℕ) (b : List Spot) where
  abbrev whole : Bool
  whole = before (corners n a) (corners m b)

  abbrev pub FromCorner : ℕ → Type 0
  FromCorner i = whole ≡ before (drop i (corners n a)) (drop i (corners m b))

  module _ (i : ℕ) (inv : FromCorner i) where
    first_over : n ≤ i → false ≡ whole
    first_over h = sym (inv ∙ (ap (λ (t : List Spot). before t (drop i (corners m b))) (from_past n a i h) ∙ none_before (drop i (corners m b))))

    second_over : m ≤ i → false ≡ whole
    second_over h = sym (inv ∙ (ap (before (drop i (corners n a))) (from_past m b i h) ∙ not_before_none (drop i (corners n a))))

    module _ (l : length a ≡ 8) (k : length b ≡ 8) where
      both_over : 8 ≤ i → false ≡ whole
      both_over h = by (from_blank n a i (omega arith)) (from_blank m b i (omega arith))
        where
          by : (drop i (corners n a) ≡ []) ⊎ (drop i (corners n a) ≡ blank_spot ∷ []) → (drop i (corners m b) ≡ []) ⊎ (drop i (corners m b) ≡ blank_spot ∷ []) → false ≡ whole
          by (inl e) f = sym (inv ∙ (ap (λ (t : List Spot). before t (drop i (corners m b))) e ∙ none_before (drop i (corners m b))))
          by (inr e) (inl f) = sym (inv ∙ (ap (before (drop i (corners n a))) f ∙ not_before_none (drop i (corners n a))))
          by (inr e) (inr f) = sym (inv ∙ rw (e, f) blank_alike)

      pub over : min (min n m) 8 ≤ i → false ≡ whole
      over h = by (dec_lt i n) (dec_lt i m)
        where
          by : Dec (i < n) → Dec (i < m) → false ≡ whole
          by (no g) d = first_over (omega arith)
          by (yes g) (no d) = second_over (omega arith)
          by (yes g) (yes d) = both_over (omega arith)

      module _ (h : i < n) (g : i < m) (few : i < 8) where
        abbrev p : Spot
        p = get_or a i blank_spot

        abbrev q : Spot
        q = get_or b i blank_spot

        here : whole ≡ before (p ∷ drop (suc i) (corners n a)) (q ∷ drop (suc i) (corners m b))
        here = rw (inv, from_next n a i h (omega arith), from_next m b i g (omega arith))

        pub by_x_law : (p.x ≡ q.x → ⊥) → ltb p.x q.x ≡ whole
        unfolding keys first_smaller
        by_x_law d = rw (here, ne_eqb p.x q.x d) (sym (or-false (ltb p.x q.x)))

        module _ (x : p.x ≡ q.x) where
          pub by_y_law : (p.y ≡ q.y → ⊥) → ltb p.y q.y ≡ whole
          unfolding keys first_smaller
          by_y_law d = rw (here, le-ltb p.x q.x (omega arith), eq-eqb p.x q.x x, ne_eqb p.y q.y d) (sym (or-false (ltb p.y q.y)))

          pub same_corner : p.y ≡ q.y → FromCorner (i + 1)
          unfolding keys first_smaller
          same_corner y = rw (here, le-ltb p.x q.x (omega arith), eq-eqb p.x q.x x, le-ltb p.y q.y (omega arith), eq-eqb p.y q.y y, add-one)
