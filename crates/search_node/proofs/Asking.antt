-- The four letters, their directions, what they ask there and of the pair at hand, and the room that the best leaves beside a half.
use Prim.Native.Nat.{ℕ, zero, suc, ◌≤◌, ◌<◌}
use mathlib.Core.Path.{◌≡◌, refl, ap, ◌∙◌}
use native.Mathlib.Omega.{arith}
use lib.ListN.{get_or}
use borrow.Author.Tests.{lt-ltb, le-ltb}
use Rattle.model.specs.declared.Chip.{Chip as HeldChip}
use Rattle.model.specs.Meaning.{chip_of}
use Rattle.model.specs.Blocks.{blocks_of}
use Rattle.placement.specs.Letters.{dot}
use Rattle.axis_bounds.specs.declared.Slot.{Slot}
use Rattle.fit_slots.specs.declared.Direction.TheVariants.{Horizontal as horizontal, Vertical as vertical}
use Rattle.fit_slots.specs.Slots as slots
use Rattle.fit_slots.specs.Slots.{Couple, couples}
use Rattle.fit_slots.specs.Axes.{held_slot}
use Rattle.fit_pairs.specs.declared.Cursor.{Cursor}
use Rattle.search_halves.specs.Half.{other_way}
use Rattle.fit_pair_slots.proofs.Reading.{slot_read_law}
use Rattle.search_halves.specs.Kept.{way_of, no_couple, asks}
use Rattle.search_node.specs.Letters.{letter_at, way_at, asked_at, slot_asked, Asks, CursorAt}

-- ---- letter i

pub way_across : (i : ℕ) → i < 2 → horizontal ≡ way_at i
way_across i h = rw (lt-ltb i 2 h)

pub way_up : (i : ℕ) → 2 ≤ i → vertical ≡ way_at i
way_up i h = rw (le-ltb i 2 h)

-- the direction of a letter, and what it asks in the other one
pub way_of_law : (i : ℕ) → i < 4 → way_of (letter_at i) ≡ way_at i
way_of_law zero h = refl
way_of_law (suc zero) h = refl
way_of_law (suc (suc zero)) h = refl
way_of_law (suc (suc (suc zero))) h = refl
way_of_law (suc (suc (suc (suc i)))) h = absurd (omega arith)

pub asks_beside : (i : ℕ) → i < 4 → slots.asked (other_way (way_at i)) (letter_at i) ≡ slots.asked (other_way (way_at i)) dot
asks_beside zero h = refl
asks_beside (suc zero) h = refl
asks_beside (suc (suc zero)) h = refl
asks_beside (suc (suc (suc zero))) h = refl
asks_beside (suc (suc (suc (suc i)))) h = absurd (omega arith)

-- ---- the pair at hand

-- what letter i asks of a couple
letter_asks : (i : ℕ) → i < 4 → (q : Couple) → held_slot (way_at i) (asked_at i) q ≡ (asks (letter_at i) q).bound
letter_asks zero h q = refl
letter_asks (suc zero) h q = refl
letter_asks (suc (suc zero)) h q = refl
letter_asks (suc (suc (suc zero))) h q = refl
letter_asks (suc (suc (suc (suc i)))) h q = absurd (omega arith)

pub asks_is : (c : HeldChip) (s : ℕ) (at : Cursor) → CursorAt c s at → (i : ℕ) → i < 4 → (t : Slot) → t ≡ slot_asked (blocks_of c) at i → Asks c s i t
asks_is c s at p i h t e = record {
  four = h;
  slot = e ∙ (slot_read_law (way_at i) (asked_at i) (blocks_of c) at p.reached ∙ (ap (held_slot (way_at i) (asked_at i)) p.couple ∙ letter_asks i h (get_or (couples (chip_of c)) s no_couple)));
}
