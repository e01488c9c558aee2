-- A placement that does not keep a letter keeps its opposite, one track the other way.
use Prim.Native.Nat.{ℕ, suc, ◌+◌, ◌≤◌, ◌<◌}
use mathlib.Core.Path.{◌≡◌, refl, sym, ap, ◌∙◌}
use mathlib.Core.Bool.{Bool, true, false, not, false≢true}
use mathlib.Core.List.{List}
use mathlib.Core.Logic.{◌⊎◌, inl, inr}
use native.Mathlib.Decide.{dec_le}
use native.Mathlib.Omega.{arith}
use lib.ListN.{length, get_or, get_or-map}
use borrow.Author.Tests.{leb-true, le-leb, lt-leb}
use Rattle.model.specs.declared.Spot.{Spot}
use Rattle.model.specs.Meaning.{Chip}
use Rattle.placement.specs.Legal.{legal}
use Rattle.placement.specs.Letters.{Letter, left, right, low, high, dot}
use Rattle.placement.specs.Pairs.{keeps, Pair, pairs, keeps_letters}
use Rattle.placement.proofs.FitIs.{letters_long}
use Rattle.placement.proofs.Cover.{Says, Kept, apart_keeps}
use Rattle.axis_bounds.specs.Axis.{KeepsSlot}
use Rattle.fit_slots.specs.declared.Direction.{Direction}
use Rattle.fit_slots.specs.declared.Direction.TheVariants.{Horizontal as horizontal, Vertical as vertical}
use Rattle.fit_slots.specs.Slots.{asked, Couple, two_macs, mac_fix, couples}
use Rattle.fit_slots.specs.Axes.{held_slot, corners_on}
use Rattle.fit_slots.proofs.Pairs.{pair_of, pairs_couples, kept_slot, slot_kept}
use Rattle.search_branches.proofs.Overlaps.{keeps_at, letters_pairs_long, legal_apart_at}
use Rattle.search_branches.proofs.Branching.{same_test}
use Rattle.search_halves.specs.Kept.{Difference, value_on, keeps_one, contrary, way_of, asks, no_couple, asks_at, opposite_at}

-- ---- a difference or its contrary

module _ (ps : List Spot) (e : Difference) where
  abbrev T : ℕ
  T = value_on e.way ps e.bound.tail + e.bound.plus

  abbrev H : ℕ
  H = value_on e.way ps e.bound.head + e.bound.minus

  -- exactly one of them is kept
  pub contrary_not : keeps_one ps (contrary e) ≡ not (keeps_one ps e)
  contrary_not = by (dec_le T H)
    where
      by : Dec (T ≤ H) → keeps_one ps (contrary e) ≡ not (keeps_one ps e)
      by (yes l) = rw (le-leb T H l) (lt-leb (value_on e.way ps e.bound.head + suc e.bound.minus) T (omega arith))
      by (no n) = rw (lt-leb T H (omega arith)) (le-leb (value_on e.way ps e.bound.head + suc e.bound.minus) T (omega arith))

  pub one_or_contrary : (keeps_one ps e ≡ true) ⊎ (keeps_one ps (contrary e) ≡ true)
  one_or_contrary = by (keeps_one ps e) refl
    where
      by : (t : Bool) → keeps_one ps e ≡ t → (keeps_one ps e ≡ true) ⊎ (keeps_one ps (contrary e) ≡ true)
      by true q = inl q
      by false q = inr (contrary_not ∙ ap not q)

-- ---- a letter as a difference

module _ (c : Chip) (ps : List Spot) where
  to_one : (m : Letter) (q : Couple) → KeepsSlot (corners_on (way_of m) ps) (held_slot (way_of m) (asked (way_of m) m) q) → keeps_one ps (asks m q) ≡ true
  to_one m q k = le-leb _ _ k.le

  of_one : (m : Letter) (q : Couple) → keeps_one ps (asks m q) ≡ true → KeepsSlot (corners_on (way_of m) ps) (held_slot (way_of m) (asked (way_of m) m) q)
  of_one m q k = record { le = leb-true _ _ k }

  -- the direction of the letter's own difference, and the other, which it asks nothing of
  both_ways : (m : Letter) (q : Couple) → KeepsSlot (corners_on (way_of m) ps) (held_slot (way_of m) (asked (way_of m) m) q) → (d : Direction) → KeepsSlot (corners_on d ps) (held_slot d (asked d m) q)
  both_ways left q k horizontal = k
  both_ways right q k horizontal = k
  both_ways dot q k horizontal = k
  both_ways low q k vertical = k
  both_ways high q k vertical = k
  both_ways left (two_macs i a j b) k vertical = record { le = omega arith }
  both_ways left (mac_fix i a f) k vertical = record { le = omega arith }
  both_ways right (two_macs i a j b) k vertical = record { le = omega arith }
  both_ways right (mac_fix i a f) k vertical = record { le = omega arith }
  both_ways dot (two_macs i a j b) k vertical = record { le = omega arith }
  both_ways dot (mac_fix i a f) k vertical = record { le = omega arith }
  both_ways low (two_macs i a j b) k horizontal = record { le = omega arith }
  both_ways low (mac_fix i a f) k horizontal = record { le = omega arith }
  both_ways high (two_macs i a j b) k horizontal = record { le = omega arith }
  both_ways high (mac_fix i a f) k horizontal = record { le = omega arith }

  -- a letter is kept exactly when its difference is
  pub letter_difference : (m : Letter) (q : Couple) → keeps c m (pair_of ps q).first (pair_of ps q).second ≡ keeps_one ps (asks m q)
  letter_difference m q = same_test (keeps c m (pair_of ps q).first (pair_of ps q).second) (keeps_one ps (asks m q))
      (λ h. to_one m q (kept_slot c ps (way_of m) m q h)) (λ h. slot_kept c ps m q (both_ways m q (of_one m q h)))

  -- the pair of the placement that stands past the end
  abbrev pub past : Pair
  past = pair_of ps no_couple

  module _ (long : length ps ≡ length c.macs) (s : ℕ) where
    pub place_difference : (m : Letter) → keeps_at c past m (pairs c ps) s ≡ keeps_one ps (asks_at c s m)
    place_difference m =
        ap (λ (p : Pair). keeps c m p.first p.second) (ap (λ (qs : List Pair). get_or qs s past) (pairs_couples c ps long) ∙ get_or-map (pair_of ps) (couples c) s no_couple)
        ∙ letter_difference m (get_or (couples c) s no_couple)

    -- a placement keeps a letter at a place, or its opposite there
    pub opposite : (m : Letter) → (keeps_at c past m (pairs c ps) s ≡ true) ⊎ (keeps_one ps (opposite_at c s m) ≡ true)
    opposite m = by (one_or_contrary ps (asks_at c s m))
      where
        by : (keeps_one ps (asks_at c s m) ≡ true) ⊎ (keeps_one ps (opposite_at c s m) ≡ true) → (keeps_at c past m (pairs c ps) s ≡ true) ⊎ (keeps_one ps (opposite_at c s m) ≡ true)
        by (inl k) = inl (place_difference m ∙ k)
        by (inr k) = inr k

-- ---- under letters

module _ (c : Chip) (ls : List Letter) (s : ℕ) (h : s < length ls) (undecided : get_or ls s dot ≡ dot) where
  -- a legal placement under the letters does not keep the opposites of all four letters
  pub not_all_opposite : (ps : List Spot) → legal c ps ≡ true → keeps_letters c ls ps ≡ true → ((m : Letter) → Says m → keeps_one ps (opposite_at c s m) ≡ true) → ⊥
  not_all_opposite ps a k f = by (apart_keeps c (get_or (pairs c ps) s (past c ps)).first (get_or (pairs c ps) s (past c ps)).second (legal_apart_at c ps (past c ps) s a (let q = letters_pairs_long c ls ps k in omega arith)))
    where
      no : (t : Bool) → t ≡ true → not t ≡ true → ⊥
      no true e g = false≢true g
      no false e g = false≢true e

      by : Kept c (get_or (pairs c ps) s (past c ps)).first (get_or (pairs c ps) s (past c ps)).second → ⊥
      by (m, n, r) = no (keeps_one ps (asks_at c s m)) (sym (place_difference c ps (letters_long c ls ps k) s m) ∙ r) (sym (contrary_not ps (asks_at c s m)) ∙ f m n)
