-- A chip's record with the boxes of its nets has at most 1,495 bytes (`boxes_short`), and so has what is printed for a text (`printed_boxes_short`). Every
-- number in it is in its range (`boxes_in_range`). The first 16,385 bytes of a text are enough (`boxes_start`).
use Prim.{tt}
use Prim.Native.Nat.{ℕ, ◌≤◌, ◌<◌}
use mathlib.Core.Path.{◌≡◌, refl, ap}
use mathlib.Core.List.{List}
use native.Mathlib.Omega.{arith}
use lib.ListN.{length, take}
use Rattle.model.specs.Meaning.{Chip, Record, none, least}
use Rattle.text_grammar.proofs.Every.{Every}
use Rattle.text_grammar.proofs.Items.{Within}
use Rattle.chip_text.specs.Text.{read_chip}
use Rattle.chip_text.specs.Valid.{Valid}
use Rattle.chip_text.proofs.Accepted.{accepted_valid}
use Rattle.chip_text.proofs.ReadText.{read_start}
use Rattle.record_text.specs.Text.{record_text}
use Rattle.record_text.proofs.Short.{accepted_within}
use Rattle.text_refusal.specs.Refusal.{printed_for}
use Rattle.text_refusal.proofs.Refusals.{printed_for_short}
use Rattle.placement.specs.Least.{chip_record}
use Rattle.placement.proofs.Nearby.{legal_near}
use Rattle.box_text.specs.Words.{box_words}
use Rattle.box_text.specs.Text.{box_items, boxes_at}
use Rattle.box_text.proofs.SameText.{InRange}
use Rattle.box_text.proofs.Short.{boxed_short}
use Rattle.box_text.proofs.Ends.{boxes_within}
use Rattle.search.proofs.RecordsRead.{chip_record_read}
use Rattle.place_print.proofs.Printing.{chip_refusal}
use Rattle.place_boxes.specs.Boxes.{boxes_for, printed_boxes}
use Rattle.place_boxes.proofs.Writing.{record_legal}

module _ (c : Chip) (v : Valid c) where
  ends_in : (r : Record) → chip_record c ≡ r → Every (Within box_words) (box_items 1 (boxes_at c r))
  unfolding box_items
  ends_in none e = tt
  ends_in (least wl ps) e = boxes_within c ps v (legal_near c ps (record_legal c wl ps e) v)

  pub boxes_in_range : InRange c (chip_record c)
  boxes_in_range = record { lines = accepted_within (record_text (chip_record c)) (chip_record c) (chip_record_read c v); boxes = ends_in (chip_record c) refl }

  pub boxes_short : length (boxes_for c) ≤ 1495
  boxes_short = boxed_short c (chip_record c) boxes_in_range

pub printed_boxes_short : (text : List ℕ) → length (printed_boxes text) ≤ 1495
printed_boxes_short text = printed_for_short boxes_for (read_chip text) 1495 (omega arith) (λ c e. boxes_short c (accepted_valid text c e)) (chip_refusal text)

pub boxes_start : (text : List ℕ) (k : ℕ) → 16384 < k → printed_boxes (take k text) ≡ printed_boxes text
boxes_start text k h = ap (printed_for boxes_for) (read_start text k h)
