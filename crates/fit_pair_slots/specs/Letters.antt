-- The slot of a pair as it is read from arrays.
use Rattle.std.specs.Prelude.{ℕ, ◌+◌, ◌%◌, ◌<◌, ◌≡◌, Bool, true, false, List, get_or}
use Rattle.model.specs.declared.Fix.{Fix}
use Rattle.model.specs.declared.Blocks.{Blocks}
use Rattle.model.specs.Meaning.{blank_fix, blank_mac}
use Rattle.chip_text.specs.Valid.{ValidFix}
use Rattle.axis_bounds.specs.declared.Slot.{Slot}
use Rattle.fit_slots.specs.declared.Direction.{Direction}
use Rattle.fit_slots.specs.declared.Asked.{Asked}
use Rattle.fit_slots.specs.Slots.{mac_side, fix_side, fix_corner}
use Rattle.fit_pairs.specs.declared.Cursor.{Cursor}
use Rattle.fit_slots.specs.Axes.{mac_pair, fix_pair}

-- the slot of macros i and j, or of macro i and fix j, counted from 0: places are read modulo 8, a fix's numbers modulo 65,536
abbrev pub slot_read : Direction → Asked → Blocks → Bool → ℕ → ℕ → Slot
slot_read d k b false i j =
    mac_pair k (i % 8 + 1) (mac_side d (get_or b.macs (i % 8) blank_mac)) (j % 8 + 1) (mac_side d (get_or b.macs (j % 8) blank_mac))
slot_read d k b true i j =
    fix_pair k (i % 8 + 1) (mac_side d (get_or b.macs (i % 8) blank_mac))
    (fix_corner d (get_or b.fixes (j % 8) blank_fix) % 65536)
    (fix_side d (get_or b.fixes (j % 8) blank_fix) % 65536)

-- the pair is on the arrays, and its fix is within its ranges
pub record Reached (fixes : List Fix) (at : Cursor) : Type 0 where
  pub i : at.i < 8
  pub j : at.j < 8
  pub fix : at.fix ≡ true → ValidFix (get_or fixes at.j blank_fix)
