-- The four letters of a pair: their bytes, their directions and the slots that they ask; one letter for each pair of a chip.
use Rattle.std.specs.Prelude.{ℕ, ◌≤◌, ◌≡◌, true, cond, List, [], ◌∷◌, ltb, get_or, take, ◌<◌}
use Rattle.model.specs.declared.Chip.{Chip as HeldChip}
use Rattle.model.specs.declared.Blocks.{Blocks}
use Rattle.model.specs.Meaning.{chip_of}
use Rattle.placement.specs.Letters.{Letter}
use Rattle.axis_bounds.specs.declared.Slot.{Slot}
use Rattle.fit_slots.specs.declared.Direction.{Direction}
use Rattle.fit_slots.specs.declared.Direction.TheVariants.{Horizontal as horizontal, Vertical as vertical}
use Rattle.fit_slots.specs.declared.Asked.{Asked}
use Rattle.fit_slots.specs.declared.Asked.TheVariants.{Before as before, After as after}
use Rattle.fit_slots.specs.Fit.{are_letters, letter_of, letters_of, letter_count}
use Rattle.fit_slots.specs.Slots.{couples}
use Rattle.fit_pairs.specs.declared.Cursor.{Cursor}
use Rattle.fit_pairs.specs.Order.{couple_at}
use Rattle.fit_pair_slots.specs.Letters.{slot_read, Reached}
use Rattle.search_halves.specs.Kept.{no_couple, asks_at}

-- ---- bytes

-- the bytes L, R, B, A
abbrev pub byte_of : ℕ → ℕ
byte_of i = get_or (76 ∷ 82 ∷ 66 ∷ 65 ∷ []) i 0

-- the letters that the first p bytes stand for
abbrev pub letters_in : List ℕ → ℕ → List Letter
letters_in letters p = letters_of (take p letters)

-- one letter or dot for each of the p pairs
pub record Lettered (c : HeldChip) (letters : List ℕ) (p : ℕ) : Type 0 where
  pub count : p ≡ letter_count (chip_of c)
  pub few : p ≤ 120
  pub bytes : are_letters (take p letters) ≡ true

-- ---- the letters of a pair

-- the letter i of the four, its direction and what it asks there
abbrev pub letter_at : ℕ → Letter
letter_at i = letter_of (byte_of i)

abbrev pub way_at : ℕ → Direction
way_at i = cond (ltb i 2) horizontal vertical

abbrev pub asked_at : ℕ → Asked
asked_at i = get_or (before ∷ after ∷ before ∷ after ∷ []) i before

-- the slot that letter i asks of the pair at hand
abbrev pub slot_asked : Blocks → Cursor → ℕ → Slot
slot_asked b at i = slot_read (way_at i) (asked_at i) b at.fix at.i at.j

-- the cursor is at pair s
pub record CursorAt (c : HeldChip) (s : ℕ) (at : Cursor) : Type 0 where
  pub reached : Reached c.fixes at
  pub couple : couple_at c.macs c.fixes at ≡ get_or (couples (chip_of c)) s no_couple

-- t is the slot that letter i asks of pair s
pub record Asks (c : HeldChip) (s i : ℕ) (t : Slot) : Type 0 where
  pub four : i < 4
  pub slot : t ≡ (asks_at (chip_of c) s (letter_at i)).bound
