-- The slot of a pair that is on the arrays is read as it stands.
use Prim.Native.Nat.{◌%◌}
use mathlib.Core.Path.{◌≡◌, refl}
use mathlib.Core.Bool.{Bool, true, false}
use native.Mathlib.Omega.{arith}
use lib.ListN.{get_or}
use Rattle.model.specs.declared.Fix.{Fix}
use Rattle.model.specs.declared.Blocks.{Blocks}
use Rattle.model.specs.Meaning.{blank_fix}
use Rattle.chip_text.specs.Valid.{ValidFix}
use Rattle.fit_slots.specs.declared.Direction.{Direction}
use Rattle.fit_slots.specs.declared.Direction.TheVariants.{Horizontal as horizontal, Vertical as vertical}
use Rattle.fit_slots.specs.declared.Asked.{Asked}
use Rattle.fit_slots.specs.Slots.{fix_side, fix_corner}
use Rattle.fit_slots.specs.Axes.{held_slot}
use Rattle.fit_pairs.specs.declared.Cursor.{Cursor}
use Rattle.fit_pairs.specs.Order.{couple_at, pair_at}
use Rattle.fit_pair_slots.specs.Letters.{slot_read, Reached}

corner_small : (d : Direction) (f : Fix) → ValidFix f → fix_corner d f % 65536 ≡ fix_corner d f
corner_small horizontal f v = let a = v.x in omega arith
corner_small vertical f v = let a = v.y in omega arith

side_small : (d : Direction) (f : Fix) → ValidFix f → fix_side d f % 65536 ≡ fix_side d f
side_small horizontal f v = let a = v.w.high in omega arith
side_small vertical f v = let a = v.h.high in omega arith

pub slot_read_law : (d : Direction) (k : Asked) (b : Blocks) (at : Cursor) → Reached b.fixes at → slot_read d k b at.fix at.i at.j ≡ held_slot d k (couple_at b.macs b.fixes at)
slot_read_law d k b at r = by at.fix refl
  where
    ei : at.i % 8 ≡ at.i
    ei = let a = r.i in omega arith

    ej : at.j % 8 ≡ at.j
    ej = let a = r.j in omega arith

    by : (f : Bool) → at.fix ≡ f → slot_read d k b f at.i at.j ≡ held_slot d k (pair_at b.macs b.fixes f at.i at.j)
    by false e = rw (ei, ej)
    by true e = rw (ei, ej, corner_small d (get_or b.fixes at.j blank_fix) (r.fix e), side_small d (get_or b.fixes at.j blank_fix) (r.fix e))
