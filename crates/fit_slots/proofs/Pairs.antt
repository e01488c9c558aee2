-- The pairs of boxes of a placement are the couples of the chip at their corners; a letter is kept exactly when both directions keep its slot.
use Prim.Native.Nat.{ℕ, zero, suc, ◌+◌, ◌≤◌}
use mathlib.Core.Path.{◌≡◌, refl, ap, ◌∙◌}
use mathlib.Core.Bool.{true}
use mathlib.Core.List.{List, [], ◌∷◌, ◌++◌, map, zip_with}
use native.Mathlib.Omega.{arith}
use lib.ListN.{length, get_or, get_or-map}
use borrow.Author.Tests.{leb-true, le-leb}
use Rattle.model.specs.declared.Fix.{Fix}
use Rattle.model.specs.declared.Mac.{Mac}
use Rattle.model.specs.declared.Spot.{Spot}
use Rattle.model.specs.Meaning.{Chip, blank_spot}
use Rattle.geometry.specs.Box.{box_at, box_of}
use Rattle.placement.specs.Legal.{boxes}
use Rattle.placement.specs.Length.{origin}
use Rattle.placement.specs.Letters.{Letter}
use Rattle.placement.specs.Pairs.{keeps, Pair, with, pairs_of, with_each, pairs}
use Rattle.placement.specs.Letters as letter
use Rattle.axis_bounds.specs.Axis.{value_at, KeepsSlot, no_slot}
use Rattle.axis_bounds.specs.Listed.{slot}
use Rattle.fit_slots.specs.declared.Direction.{Direction}
use Rattle.fit_slots.specs.declared.Direction.TheVariants.{Horizontal as horizontal, Vertical as vertical}
use Rattle.fit_slots.specs.Slots.{asked, Couple, two_macs, mac_fix, couples_with, mac_couples, fix_couples, couples_of, couples}
use Rattle.fit_slots.specs.Axes.{held_slot, corner_on, corners_on}

-- the boxes of a couple
abbrev pub pair_of : List Spot → Couple → Pair
pair_of ps (two_macs i a j b) = record { first = box_at a (origin ps i); second = box_at b (origin ps j) }
pair_of ps (mac_fix i a f) = record { first = box_at a (origin ps i); second = box_of f }

-- the placement ps from place i on is qs
abbrev From : List Spot → ℕ → List Spot → Type 0
From ps i qs = (j : ℕ) → get_or ps (i + j) blank_spot ≡ get_or qs j blank_spot

from_start : (ps : List Spot) → From ps 0 ps
from_start ps j = ap (λ (k : ℕ). get_or ps k blank_spot) (omega arith)

from_next : (ps : List Spot) (i : ℕ) (q : Spot) (qs : List Spot) → From ps i (q ∷ qs) → From ps (suc i) qs
from_next ps i q qs h j = ap (λ (k : ℕ). get_or ps k blank_spot) (omega arith) ∙ h (suc j)

from_first : (ps : List Spot) (i : ℕ) (q : Spot) (qs : List Spot) → From ps i (q ∷ qs) → origin ps (suc i) ≡ q
from_first ps i q qs h = ap (λ (k : ℕ). get_or ps k blank_spot) (omega arith) ∙ h 0

map_append : {A B : Type 0} (f : A → B) (s t : List A) → map f (s ++ t) ≡ map f s ++ map f t
map_append f [] t = refl
map_append f (a ∷ s) t = ap (λ (u : List _). f a ∷ u) (map_append f s t)

with_couples : (ps : List Spot) (i : ℕ) (a : Mac) (j : ℕ) (ms : List Mac) (qs : List Spot) → From ps j qs → length qs ≡ length ms → with (box_at a (origin ps i)) (boxes ms qs) ≡ map (pair_of ps) (couples_with i a (suc j) ms)
unfolding zip_with couples_with
with_couples ps i a j [] qs h e = refl
with_couples ps i a j (m ∷ ms) [] h e = absurd (omega arith)
with_couples ps i a j (m ∷ ms) (q ∷ qs) h e =
    rw (from_first ps j q qs h, with_couples ps i a (suc j) ms qs (from_next ps j q qs h) (omega arith))

mac_pairs : (ps : List Spot) (i : ℕ) (ms : List Mac) (qs : List Spot) → From ps i qs → length qs ≡ length ms → pairs_of (boxes ms qs) ≡ map (pair_of ps) (mac_couples (suc i) ms)
unfolding zip_with pairs_of mac_couples
mac_pairs ps i [] qs h e = refl
mac_pairs ps i (m ∷ ms) [] h e = absurd (omega arith)
mac_pairs ps i (m ∷ ms) (q ∷ qs) h e =
    let ih = mac_pairs ps (suc i) ms qs (from_next ps i q qs h) (omega arith) in
    let w = with_couples ps (suc i) m (suc i) ms qs (from_next ps i q qs h) (omega arith) in
    rw (map_append (pair_of ps) (couples_with (suc i) m (suc (suc i)) ms) (mac_couples (suc (suc i)) ms), ← ih, ← w, from_first ps i q qs h)

fix_with : (ps : List Spot) (i : ℕ) (a : Mac) (fs : List Fix) → with (box_at a (origin ps i)) (map box_of fs) ≡ map (pair_of ps) (map (mac_fix i a) fs)
fix_with ps i a [] = refl
fix_with ps i a (f ∷ fs) = rw (fix_with ps i a fs)

fix_pairs : (ps : List Spot) (i : ℕ) (ms : List Mac) (qs : List Spot) (fs : List Fix) → From ps i qs → length qs ≡ length ms → with_each (boxes ms qs) (map box_of fs) ≡ map (pair_of ps) (fix_couples (suc i) ms fs)
unfolding zip_with with_each fix_couples
fix_pairs ps i [] qs fs h e = refl
fix_pairs ps i (m ∷ ms) [] fs h e = absurd (omega arith)
fix_pairs ps i (m ∷ ms) (q ∷ qs) fs h e =
    let ih = fix_pairs ps (suc i) ms qs fs (from_next ps i q qs h) (omega arith) in
    rw (map_append (pair_of ps) (map (mac_fix (suc i) m) fs) (fix_couples (suc (suc i)) ms fs), ← ih, ← fix_with ps (suc i) m fs, from_first ps i q qs h)

pub pairs_couples : (c : Chip) (ps : List Spot) → length ps ≡ length c.macs → pairs c ps ≡ map (pair_of ps) (couples c)
unfolding pairs couples_of
pairs_couples c ps e =
    rw (map_append (pair_of ps) (mac_couples 1 c.macs) (fix_couples 1 c.macs c.fixes), ← mac_pairs ps 0 c.macs ps (from_start ps) e, ← fix_pairs ps 0 c.macs ps c.fixes (from_start ps) e)

-- ---- a node's value is its corner's coordinate

pub value_corner : (d : Direction) (ps : List Spot) (i : ℕ) → value_at (corners_on d ps) i ≡ corner_on d (origin ps i)
value_corner horizontal ps zero = refl
value_corner vertical ps zero = refl
value_corner horizontal ps (suc i) = get_or-map (corner_on horizontal) ps i blank_spot
value_corner vertical ps (suc i) = get_or-map (corner_on vertical) ps i blank_spot

module _ (c : Chip) (ps : List Spot) where
  abbrev X : ℕ → ℕ
  X i = (origin ps i).x

  abbrev Y : ℕ → ℕ
  Y i = (origin ps i).y

  abbrev pub Kept : Letter → Couple → Type 0
  Kept l q = keeps c l (pair_of ps q).first (pair_of ps q).second ≡ true

  abbrev pub Slotted : Direction → Letter → Couple → Type 0
  Slotted d l q = KeepsSlot (corners_on d ps) (held_slot d (asked d l) q)

  -- a bound between corners is the bound of the slot
  to_slot : (d : Direction) (t h p m : ℕ) → corner_on d (origin ps t) + p ≤ corner_on d (origin ps h) + m → KeepsSlot (corners_on d ps) (slot t h p m)
  to_slot d t h p m l = let u = value_corner d ps t in let v = value_corner d ps h in record { le = omega arith }

  of_slot : (d : Direction) (t h p m : ℕ) → KeepsSlot (corners_on d ps) (slot t h p m) → corner_on d (origin ps t) + p ≤ corner_on d (origin ps h) + m
  of_slot d t h p m k = let u = value_corner d ps t in let v = value_corner d ps h in let l = k.le in omega arith

  asks_nothing : (d : Direction) → KeepsSlot (corners_on d ps) no_slot
  asks_nothing d = record { le = omega arith }

  pub kept_slot : (d : Direction) (l : Letter) (q : Couple) → Kept l q → Slotted d l q
  kept_slot horizontal letter.left (two_macs i a j b) h = let p = leb-true (X i + a.w + 0) (X j) h in to_slot horizontal i j a.w 0 (omega arith)
  kept_slot horizontal letter.right (two_macs i a j b) h = let p = leb-true (X j + b.w + 0) (X i) h in to_slot horizontal j i b.w 0 (omega arith)
  kept_slot vertical letter.low (two_macs i a j b) h = let p = leb-true (Y i + a.h + 0) (Y j) h in to_slot vertical i j a.h 0 (omega arith)
  kept_slot vertical letter.high (two_macs i a j b) h = let p = leb-true (Y j + b.h + 0) (Y i) h in to_slot vertical j i b.h 0 (omega arith)
  kept_slot horizontal letter.left (mac_fix i a f) h = let p = leb-true (X i + a.w + 0) f.x h in to_slot horizontal i 0 a.w f.x (omega arith)
  kept_slot horizontal letter.right (mac_fix i a f) h = let p = leb-true (f.x + f.w + 0) (X i) h in to_slot horizontal 0 i (f.x + f.w) 0 (omega arith)
  kept_slot vertical letter.low (mac_fix i a f) h = let p = leb-true (Y i + a.h + 0) f.y h in to_slot vertical i 0 a.h f.y (omega arith)
  kept_slot vertical letter.high (mac_fix i a f) h = let p = leb-true (f.y + f.h + 0) (Y i) h in to_slot vertical 0 i (f.y + f.h) 0 (omega arith)
  kept_slot horizontal letter.low (two_macs i a j b) h = asks_nothing horizontal
  kept_slot horizontal letter.low (mac_fix i a f) h = asks_nothing horizontal
  kept_slot horizontal letter.high (two_macs i a j b) h = asks_nothing horizontal
  kept_slot horizontal letter.high (mac_fix i a f) h = asks_nothing horizontal
  kept_slot horizontal letter.dot (two_macs i a j b) h = asks_nothing horizontal
  kept_slot horizontal letter.dot (mac_fix i a f) h = asks_nothing horizontal
  kept_slot vertical letter.left (two_macs i a j b) h = asks_nothing vertical
  kept_slot vertical letter.left (mac_fix i a f) h = asks_nothing vertical
  kept_slot vertical letter.right (two_macs i a j b) h = asks_nothing vertical
  kept_slot vertical letter.right (mac_fix i a f) h = asks_nothing vertical
  kept_slot vertical letter.dot (two_macs i a j b) h = asks_nothing vertical
  kept_slot vertical letter.dot (mac_fix i a f) h = asks_nothing vertical

  pub slot_kept : (l : Letter) (q : Couple) → ((d : Direction) → Slotted d l q) → Kept l q
  slot_kept letter.left (two_macs i a j b) h = let p = of_slot horizontal i j a.w 0 (h horizontal) in le-leb (X i + a.w + 0) (X j) (omega arith)
  slot_kept letter.right (two_macs i a j b) h = let p = of_slot horizontal j i b.w 0 (h horizontal) in le-leb (X j + b.w + 0) (X i) (omega arith)
  slot_kept letter.low (two_macs i a j b) h = let p = of_slot vertical i j a.h 0 (h vertical) in le-leb (Y i + a.h + 0) (Y j) (omega arith)
  slot_kept letter.high (two_macs i a j b) h = let p = of_slot vertical j i b.h 0 (h vertical) in le-leb (Y j + b.h + 0) (Y i) (omega arith)
  slot_kept letter.left (mac_fix i a f) h = let p = of_slot horizontal i 0 a.w f.x (h horizontal) in le-leb (X i + a.w + 0) f.x (omega arith)
  slot_kept letter.right (mac_fix i a f) h = let p = of_slot horizontal 0 i (f.x + f.w) 0 (h horizontal) in le-leb (f.x + f.w + 0) (X i) (omega arith)
  slot_kept letter.low (mac_fix i a f) h = let p = of_slot vertical i 0 a.h f.y (h vertical) in le-leb (Y i + a.h + 0) f.y (omega arith)
  slot_kept letter.high (mac_fix i a f) h = let p = of_slot vertical 0 i (f.y + f.h) 0 (h vertical) in le-leb (f.y + f.h + 0) (Y i) (omega arith)
  slot_kept letter.dot (two_macs i a j b) h = refl
  slot_kept letter.dot (mac_fix i a f) h = refl
