-- Document 02, Card 2, in its own words: "A second program prints what `place` prints and, after the record's `done`, one line per net .. A `none` record gets no
-- boxes." The service on a lent buffer does the same. That a box holds every pin of its net and that each side touches one is box_text/proofs/Holds.antt.
use Prim.Native.Nat.{ℕ, ◌+◌, ◌*◌, ◌≤◌}
use mathlib.Core.Path.{◌≡◌, refl, sym, ap, ◌∙◌}
use mathlib.Core.Bool.{Bool}
use mathlib.Core.List.{List, ◌∷◌, ◌++◌, map, append-nil}
use native.Mathlib.Omega.{arith}
use lib.ListN.{length, drop}
use borrow.Author.Tests.{le-leb}
use Rattle.model.specs.declared.Spot.{Spot}
use Rattle.model.specs.Meaning.{Net, Chip, Record, none, least}
use Rattle.text_grammar.specs.Reading.{Reading, accepted, refused}
use Rattle.text_grammar.specs.Writing.{wrote, not_written, if_room, write_read}
use Rattle.text_grammar.specs.Words.{items_text}
use Rattle.text_grammar.proofs.Numbers.{Numbered}
use Rattle.chip_text.specs.Text.{read_chip}
use Rattle.chip_text.proofs.Accepted.{accepted_valid}
use Rattle.text_refusal.specs.Refusal.{printed_for}
use Rattle.placement.specs.Integers.{Corner, net_box_z, span, nets_length_z, integers}
use Rattle.placement.specs.Least.{chip_record}
use Rattle.box_text.specs.Words.{box_words}
use Rattle.box_text.specs.Text.{box_items, boxes_at, boxed_text}
use Rattle.box_text.proofs.SameText.{boxed_same}
use Rattle.search.specs.Place.{record_for, place_text}
use Rattle.place_print.specs.Printed.{printed}
use Rattle.place_print.proofs.Refusals.{read_number}
use Rattle.place_boxes.specs.Boxes.{boxes_for, boxes_text, printed_boxes}
use Rattle.place_boxes.proofs.Short.{boxes_in_range, boxes_short}

-- the lines of boxes
abbrev pub box_lines : Chip → List ℕ
box_lines c = items_text box_words (box_items 1 (boxes_at c (chip_record c)))

module _ (text : List ℕ) (c : Chip) (e : read_chip text ≡ accepted c) where
  -- what `place` prints, then the lines of boxes
  pub boxes_after_record : printed_boxes text ≡ printed text ++ box_lines c
  unfolding boxed_text
  boxes_after_record = ap (printed_for boxes_for) e ∙ ap (λ (t : List ℕ). t ++ box_lines c) (sym (ap (printed_for record_for) e))

  -- one for each net, in file order, at the record's placement
  pub box_of_each_net : (wl : ℕ) (ps : List Spot) → chip_record c ≡ least wl ps → boxes_at c (chip_record c) ≡ map (net_box_z (integers ps)) c.nets
  box_of_each_net wl ps q = ap (boxes_at c) q

  -- a `none` record gets no boxes
  pub none_without_boxes : chip_record c ≡ none → printed_boxes text ≡ printed text
  unfolding box_items items_text
  none_without_boxes q = boxes_after_record ∙ (ap (λ (r : Record). printed text ++ items_text box_words (box_items 1 (boxes_at c r))) q ∙ append-nil (printed text))

  -- the service writes these bytes where they fit, and 1,495 are always enough
  pub boxes_written : (out : List ℕ) → length (printed_boxes text) ≤ length out → boxes_text text out ≡ record { answer = wrote (length (printed_boxes text)); buffer = printed_boxes text ++ drop (length (printed_boxes text)) out }
  boxes_written out h =
      let p : printed_boxes text ≡ boxes_for c = ap (printed_for boxes_for) e in
      ap (λ (r : Reading Chip). write_read boxes_for r out) e
      ∙ (ap (λ (b : Bool). if_room b (boxes_for c) out) (le-leb (length (boxes_for c)) (length out) (let l = ap (λ (t : List ℕ). length t) p in omega arith))
      ∙ ap (λ (t : List ℕ). record { answer = wrote (length t); buffer = t ++ drop (length t) out }) (sym p))

  pub boxes_enough : length (printed_boxes text) ≤ 1495
  boxes_enough = let s = boxes_short c (accepted_valid text c e) in let l = ap (λ (t : List ℕ). length t) (ap (printed_for boxes_for) e) in omega arith

-- a text that is refused gets the refusal alone, as from `place`
module _ (text : List ℕ) (n l : ℕ) (e : read_chip text ≡ refused n l) where
  pub refused_alone : printed_boxes text ≡ printed text
  refused_alone = ap (printed_for boxes_for) e ∙ sym (ap (printed_for record_for) e)

  pub refused_same : (out : List ℕ) → boxes_text text out ≡ place_text text out
  refused_same out = ap (λ (r : Reading Chip). write_read boxes_for r out) e ∙ sym (ap (λ (r : Reading Chip). write_read record_for r out) e)

-- one meaning has one text: from equal texts, equal records and equal boxes
pub boxes_one_text : (text other : List ℕ) (c d : Chip) → read_chip text ≡ accepted c → read_chip other ≡ accepted d → boxes_for c ≡ boxes_for d → (chip_record c ≡ chip_record d) × (boxes_at c (chip_record c) ≡ boxes_at d (chip_record d))
boxes_one_text text other c d e f q = boxed_same c d (chip_record c) (chip_record d) (boxes_in_range c (accepted_valid text c e)) (boxes_in_range d (accepted_valid other d f)) q

-- a net's length is its weight times the width plus the height of its box
pub length_of_box : (ps : List Corner) (t : Net) (ts : List Net) → nets_length_z ps (t ∷ ts) ≡ t.weight * (span (net_box_z ps t).left (net_box_z ps t).right + span (net_box_z ps t).bottom (net_box_z ps t).top) + nets_length_z ps ts
unfolding nets_length_z
length_of_box ps t ts = refl

pub boxes_number : (text out : List ℕ) (n l : ℕ) → (boxes_text text out).answer ≡ not_written n l → Numbered 15 n
boxes_number text out n l = read_number out n l boxes_for text
