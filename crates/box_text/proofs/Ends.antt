-- The boxes of a valid chip's nets at positions 0..1,024 are in their range, and so is their number: `boxes_within`.
use Prim.Native.Nat.{ℕ, suc, ◌+◌, ◌≤◌, ◌<◌}
use mathlib.Core.Path.{◌≡◌}
use mathlib.Core.Bool.{true}
use mathlib.Core.List.{List, [], ◌∷◌, map}
use Prim.{tt}
use native.Mathlib.Omega.{arith}
use lib.IntN.{pos}
use lib.ListN.{length, get_or}
use borrow.Author.Tests.{le-leb}
use Rattle.model.specs.declared.Spot.{Spot}
use Rattle.model.specs.Limits.{is_within, boxed_net}
use Rattle.model.specs.Meaning.{Net, Chip}
use Rattle.text_grammar.proofs.Every.{Every}
use Rattle.text_grammar.proofs.FieldsText.{judged}
use Rattle.text_grammar.proofs.Items.{Within}
use Rattle.chip_text.specs.Valid.{Valid, ValidNet, no_net}
use Rattle.placement.specs.Corners.{CornersWithin}
use Rattle.placement.specs.Integers.{NetBox, net_box_z, integers}
use Rattle.placement.proofs.Integers.{box_same}
use Rattle.placement.proofs.LengthBound.{BoxWithin, box_within}
use Rattle.box_text.specs.Words.{box_words}
use Rattle.box_text.specs.Text.{box_item, box_items}

in_number : (n : ℕ) → 1 ≤ n → n ≤ 32 → is_within boxed_net (pos n) ≡ true
in_number n l h = rw (le-leb 1 n l, le-leb n 32 h)

line_within : (n : ℕ) (b : NetBox) → 1 ≤ n → n ≤ 32 → BoxWithin b → Within box_words (box_item n b)
unfolding judged
line_within n b l h w = rw (in_number n l h, w.left, w.right, w.bottom, w.top)

module _ (ps : List Spot) (near : CornersWithin ps) (m : ℕ) where
  lines_within : (n : ℕ) (ts : List Net) → 1 ≤ n → n + length ts ≤ 33 → ((j : ℕ) → j < length ts → ValidNet m (get_or ts j no_net)) → Every (Within box_words) (box_items n (map (net_box_z (integers ps)) ts))
  unfolding box_items
  lines_within n [] l h v = tt
  lines_within n (t ∷ ts) l h v =
      (line_within n (net_box_z (integers ps) t) l (omega arith) (rw (box_same ps t) (box_within ps near m t (v 0 (omega arith)))), lines_within (suc n) ts (omega arith) (omega arith) (λ j k. v (suc j) (omega arith)))

pub boxes_within : (c : Chip) (ps : List Spot) → Valid c → CornersWithin ps → Every (Within box_words) (box_items 1 (map (net_box_z (integers ps)) c.nets))
boxes_within c ps v near = lines_within ps near (length c.macs) 1 c.nets (omega arith) (let k = v.net_count in omega arith) v.net
