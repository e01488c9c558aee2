-- The choice of an overlapping pair.
use Rattle.std.specs.Prelude.{ℕ, ◌≤◌, ◌<◌, ◌≡◌, Bool, true, false, List, get_or, take}
use Rattle.model.specs.declared.Blocks.{Blocks}
use Rattle.model.specs.declared.Spot.{Spot}
use Rattle.model.specs.Meaning.{Chip}
use Rattle.model.specs.Blocks.{bare_of}
use Rattle.geometry.specs.Box.{blank_box, apart}
use Rattle.placement.specs.Integers.{gap_of}
use Rattle.placement.specs.Pairs.{Pair, pairs}
use Rattle.fit_slots.specs.Slots.{Couple, couples}
use Rattle.fit_pairs.specs.declared.Cursor.{Cursor}
use Rattle.fit_pairs.specs.Order.{couple_at, OnPair}
use Rattle.fit_pairs.specs.Count.{letter_total}

abbrev pub no_pair : Pair
no_pair = record { first = blank_box; second = blank_box }

-- the pair at place s is apart
abbrev pub apart_at : Chip → List Pair → ℕ → Bool
apart_at c qs s = apart (gap_of c) (get_or qs s no_pair).first (get_or qs s no_pair).second

-- of p pairs, r is the place of one that overlaps, or r is p and each pair is apart
pub record Chosen (c : Chip) (ps : List Spot) (p r : ℕ) : Type 0 where
  pub place : r ≤ p
  pub overlap : r < p → apart_at c (pairs c ps) r ≡ false
  pub none : r ≡ p → (s : ℕ) → s < p → apart_at c (pairs c ps) s ≡ true

-- the cursor is at the pair of place s, where there is one
pub record PlaceOf (b : Blocks) (p s : ℕ) (at : Cursor) : Type 0 where
  pub on : s < p → OnPair b.n b.k at
  pub couple : s < p → (z : Couple) → get_or (couples (bare_of b)) s z ≡ couple_at b.macs b.fixes at

-- p is the number of pairs of n macros and k fixes
pub record Laid (n k p : ℕ) : Type 0 where
  pub few : n ≤ 8
  pub few_fixes : k ≤ 8
  pub count : p ≡ letter_total n k

pub record LaidBy (b : Bool) (n k p : ℕ) : Type 0 where
  pub yes : b ≡ true → Laid n k p
  pub no : b ≡ false → Laid n k p → ⊥

-- r is the place of an overlapping pair of the p pairs, with the cursor there, or p where each two are apart
pub record ChosenOf (b : Blocks) (spots : List Spot) (p r : ℕ) (at : Cursor) : Type 0 where
  pub pair : Laid b.n b.k p → Chosen (bare_of b) (take b.n spots) p r
  pub place : Laid b.n b.k p → PlaceOf b p r at
