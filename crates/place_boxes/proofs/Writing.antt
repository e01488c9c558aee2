-- From what the search finds to what is written and printed, in the form of the needs.
use Rattle.std.specs.Prelude.{Result, Ok, Err}
use Prim.Native.Nat.{ℕ}
use mathlib.Core.Path.{◌≡◌, refl, sym, ap, ◌∙◌}
use mathlib.Core.Bool.{true}
use mathlib.Core.List.{List, map}
use native.Mathlib.Omega.{arith}
use lib.ListN.{length, length-map}
use Rattle.model.specs.declared.Refusal.{Refusal}
use Rattle.model.specs.declared.Spot.{Spot}
use Rattle.model.specs.Meaning.{Chip, none, least, chip_of, record_of}
use Rattle.text_grammar.specs.Reading.{Reading, accepted}
use Rattle.text_grammar.specs.Writing.{Written, answer_of, refuse, write_text, write_read}
use Rattle.chip_text.specs.Text.{read_chip}
use Rattle.chip_text.specs.Passed.{Passed}
use Rattle.chip_text.proofs.Passing.{Whole}
use Rattle.chip_read.proofs.Passing.{read_passed}
use Rattle.record_text.specs.Text.{read_record, record_text}
use Rattle.text_refusal.specs.Refusal.{shown}
use Rattle.text_refusal.proofs.Refusals.{read_printed}
use Rattle.placement.specs.Legal.{legal}
use Rattle.placement.specs.Least.{Best, nothing, found, earliest_least, best_record, chip_record}
use Rattle.placement.proofs.Demand.{earliest_least_found}
use Rattle.box_text.specs.Text.{boxed_text}
use Rattle.box_print.specs.Held.{held_text}
use Rattle.box_write.proofs.Meaning.{text_meant}
use Rattle.search.specs.declared.service.Found.{Found}
use Rattle.search.specs.Place.{placed_read, meant_found}
use Rattle.search.proofs.Placing.{text_refused, text_accepted, record_found}
use Rattle.search.proofs.RecordsRead.{chip_record_read}
use Rattle.place_print.proofs.Printing.{not_fifteen}
use Rattle.place_boxes.specs.Boxes.{boxes_for, boxes_text, print_boxes}

-- the placement of a chip's record is legal
pub record_legal : (c : Chip) (wl : ℕ) (ps : List Spot) → chip_record c ≡ least wl ps → legal c ps ≡ true
unfolding chip_record
record_legal c wl ps e = by (earliest_least c) refl
  where
    by : (b : Best) → earliest_least c ≡ b → legal c ps ≡ true
    by nothing q = let n : none ≡ least wl ps = ap best_record (sym q) ∙ e in let z : ◌≡◌ {A = ℕ} 0 1 = cc in absurd (omega arith)
    by (found l qs) q = let n : least l qs ≡ least wl ps = ap best_record (sym q) ∙ e in let s : qs ≡ ps = cc in ap (legal c) (sym s) ∙ (earliest_least_found c l qs q).passed

module _ (text out : List ℕ) (a : Result Found Refusal) (e : meant_found a ≡ placed_read (read_chip text)) where
  pub boxes_refused : (f : Refusal) → a ≡ Err f → refuse f.no f.line out ≡ boxes_text text out
  boxes_refused f q = ap (λ (t : Reading Chip). write_read boxes_for t out) (sym (text_refused text a e f q))

  module _ (p : Found) (q : a ≡ Ok p) (shape : Whole p.chip) {A : Type 0} (f : Spot → A) (l : length (map f p.best.spots) ≡ 8) where
    read : read_chip text ≡ accepted (chip_of p.chip)
    read = text_accepted text a e p q

    tested : Passed p.chip
    tested = read_passed text (Ok p.chip) (sym read) p.chip shape refl

    result : record_of p.best ≡ chip_record (chip_of p.chip)
    result = record_found text a e p q

    whole_text : held_text p.chip p.best ≡ boxes_for (chip_of p.chip)
    whole_text =
        text_meant p.chip tested shape p.best (sym (length-map p.best.spots f) ∙ l) (λ wl ps u. record_legal (chip_of p.chip) wl ps (sym result ∙ u))
        ∙ ap (boxed_text (chip_of p.chip)) result

    -- the record is not refused when it is tested
    tested_text : write_text (read_record (record_text (record_of p.best))) (held_text p.chip p.best) out ≡ write_read boxes_for (accepted (chip_of p.chip)) out
    tested_text = rw (result, chip_record_read (chip_of p.chip) tested.valid, whole_text)

    pub boxes_written : (w : Written) → w ≡ write_text (read_record (record_text (record_of p.best))) (held_text p.chip p.best) out → w ≡ boxes_text text out
    boxes_written w o = o ∙ (tested_text ∙ ap (λ (t : Reading Chip). write_read boxes_for t out) (sym read))

pub boxes_printed : (text b m : List ℕ) (a : Result ℕ Refusal) → record { answer = answer_of a; buffer = m } ≡ boxes_text text b → (w : Result ℕ Refusal) (z : List ℕ) → record { answer = answer_of w; buffer = z } ≡ shown (answer_of a) m → record { answer = answer_of w; buffer = z } ≡ print_boxes text b
boxes_printed text b m a e w z p = read_printed boxes_for (read_chip text) (not_fifteen text) b m a e w z p
