-- Laws of the greatest, the least and the spread of a list of numbers.
use Prim.Native.Nat.{ℕ, zero, suc, ◌+◌, ◌-◌, ◌≤◌, ◌<◌, min, max}
use mathlib.Core.Path.{◌≡◌, refl}
use mathlib.Core.List.{List, [], ◌∷◌}
use native.Mathlib.Nat.{le_of_suc-le-suc}
use native.Mathlib.Omega.{arith}
use lib.ListN.{length, get_or}
use Rattle.num_laws.specs.Spread.{most, fewest, top, bottom, spread}

-- every number of the list is at most b
pub record AtMost (b : ℕ) (s : List ℕ) : Type 0 where
  pub at : (i : ℕ) → i < length s → get_or s i 0 ≤ b

module _ (b a : ℕ) (s : List ℕ) (h : AtMost b (a ∷ s)) where
  pub first_at_most : a ≤ b
  first_at_most = h.at 0 (omega arith)

  pub rest_at_most : AtMost b s
  rest_at_most = record { at = λ i l. h.at (suc i) (omega arith) }

-- the least is at most each number, and each number is at most the greatest
pub le_most : (a : ℕ) (s : List ℕ) → a ≤ most a s
unfolding most
le_most a [] = omega arith
le_most a (b ∷ s) = let h = le_most (max a b) s in omega arith

pub fewest_le : (a : ℕ) (s : List ℕ) → fewest a s ≤ a
unfolding fewest
fewest_le a [] = omega arith
fewest_le a (b ∷ s) = let h = fewest_le (min a b) s in omega arith

pub each_le_most : (a : ℕ) (s : List ℕ) (i : ℕ) → i < length s → get_or s i 0 ≤ most a s
unfolding most
each_le_most a [] i l = absurd (omega arith)
each_le_most a (b ∷ s) zero l = let h = le_most (max a b) s in omega arith
each_le_most a (b ∷ s) (suc i) l = each_le_most (max a b) s i (le_of_suc-le-suc l)

pub fewest_le_each : (a : ℕ) (s : List ℕ) (i : ℕ) → i < length s → fewest a s ≤ get_or s i 0
unfolding fewest
fewest_le_each a [] i l = absurd (omega arith)
fewest_le_each a (b ∷ s) zero l = let h = fewest_le (min a b) s in omega arith
fewest_le_each a (b ∷ s) (suc i) l = fewest_le_each (min a b) s i (le_of_suc-le-suc l)

pub fewest_le_most : (a : ℕ) (s : List ℕ) → fewest a s ≤ most a s
fewest_le_most a s = let l = fewest_le a s in let h = le_most a s in omega arith

-- a bound of all numbers bounds the greatest and the spread
pub most_le : (b a : ℕ) (s : List ℕ) → a ≤ b → AtMost b s → most a s ≤ b
unfolding most
most_le b a [] l h = l
most_le b a (c ∷ s) l h = let g = first_at_most b c s h in most_le b (max a c) s (omega arith) (rest_at_most b c s h)

pub spread_le : (b : ℕ) (s : List ℕ) → AtMost b s → spread s ≤ b
unfolding spread
spread_le b [] h = omega arith
spread_le b (a ∷ s) h = let g = most_le b a s (first_at_most b a s h) (rest_at_most b a s h) in omega arith

-- every number of the list is at least b
pub record AtLeast (b : ℕ) (s : List ℕ) : Type 0 where
  pub at : (i : ℕ) → i < length s → b ≤ get_or s i 0

module _ (b a : ℕ) (s : List ℕ) (h : AtLeast b (a ∷ s)) where
  pub first_at_least : b ≤ a
  first_at_least = h.at 0 (omega arith)

  pub rest_at_least : AtLeast b s
  rest_at_least = record { at = λ i l. h.at (suc i) (omega arith) }

-- a lower limit of all numbers is one of the least
pub le_fewest : (b a : ℕ) (s : List ℕ) → b ≤ a → AtLeast b s → b ≤ fewest a s
unfolding fewest
le_fewest b a [] l h = l
le_fewest b a (c ∷ s) l h = let g = first_at_least b c s h in le_fewest b (min a c) s (omega arith) (rest_at_least b c s h)

-- ---- the greatest and the least of a list

pub top_bottom : (s : List ℕ) → top s ≡ bottom s + spread s
unfolding top bottom spread
top_bottom [] = refl
top_bottom (a ∷ s) = let p = fewest_le_most a s in omega arith

-- found one after the other from an end that no number lies beyond
pub top_found : (s : List ℕ) → most 0 s ≡ top s
unfolding most top
top_found [] = refl
top_found (a ∷ s) = let e : max 0 a ≡ a = omega arith in rw e

pub bottom_found : (b a : ℕ) (s : List ℕ) → a ≤ b → fewest b (a ∷ s) ≡ bottom (a ∷ s)
unfolding fewest bottom
bottom_found b a s l = let e : min b a ≡ a = omega arith in rw e

pub each_le_top : (s : List ℕ) (i : ℕ) → i < length s → get_or s i 0 ≤ top s
unfolding top
each_le_top [] i l = absurd (omega arith)
each_le_top (a ∷ s) zero l = le_most a s
each_le_top (a ∷ s) (suc i) l = each_le_most a s i (le_of_suc-le-suc l)

pub bottom_le_each : (s : List ℕ) (i : ℕ) → i < length s → bottom s ≤ get_or s i 0
unfolding bottom
bottom_le_each [] i l = absurd (omega arith)
bottom_le_each (a ∷ s) zero l = fewest_le a s
bottom_le_each (a ∷ s) (suc i) l = fewest_le_each a s i (le_of_suc-le-suc l)

pub top_le : (b : ℕ) (s : List ℕ) → AtMost b s → top s ≤ b
unfolding top
top_le b [] h = omega arith
top_le b (a ∷ s) h = most_le b a s (first_at_most b a s h) (rest_at_most b a s h)

pub le_bottom : (b : ℕ) (s : List ℕ) → 0 < length s → AtLeast b s → b ≤ bottom s
unfolding bottom
le_bottom b [] l h = absurd (omega arith)
le_bottom b (a ∷ s) l h = le_fewest b a s (first_at_least b a s h) (rest_at_least b a s h)

-- numbers that, c higher, lie from lo to hi
pub spread_between : (s : List ℕ) (c lo hi : ℕ) → 0 < length s → ((i : ℕ) → i < length s → lo ≤ get_or s i 0 + c) → ((i : ℕ) → i < length s → get_or s i 0 + c ≤ hi) → lo + spread s ≤ hi
spread_between s c lo hi l low high =
    let p = top_bottom s in
    let q = top_le (hi - c) s (record { at = λ i k. let h = high i k in omega arith }) in
    let r = le_bottom (lo - c) s l (record { at = λ i k. let h = low i k in omega arith }) in
    let a = low 0 l in
    let b = high 0 l in
    omega arith
