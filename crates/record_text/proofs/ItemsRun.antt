-- Reading the text of a record is a run of the record's items.
use mathlib.Core.Path.{◌≡◌, refl, ap, ◌∙◌}
use mathlib.Core.List.{List, [], ◌∷◌, ◌++◌}
use Prim.{tt}
use Prim.Native.Nat.{ℕ, suc, ◌≤◌}
use lib.ListN.{length}
use Rattle.model.specs.declared.Spot.{Spot}
use Rattle.model.specs.Meaning.{Record, none, least}
use Rattle.text_grammar.specs.Reading.{read_lines, part_read}
use Rattle.text_grammar.specs.Line.{lines}
use Rattle.text_grammar.proofs.FieldsText.{suits, shaped}
use Rattle.text_grammar.proofs.Items.{WellFormed, run_items, read_items, read_text_short}
use Rattle.record_text.specs.Kind.{start, record_kind, Part}
use Rattle.record_text.proofs.Told.{words_told}
use Rattle.record_text.specs.Text.{done_item, at_items, record_items, read_record, record_text}

spots_formed : (m : ℕ) (ps : List Spot) → WellFormed record_kind (at_items m ps ++ (done_item ∷ []))
unfolding at_items suits shaped
spots_formed m [] = (refl, tt)
spots_formed m (p ∷ ps) = (refl, spots_formed (suc m) ps)

pub items_formed : (r : Record) → WellFormed record_kind (record_items r)
unfolding record_items at_items suits shaped
items_formed none = (refl, spots_formed 1 [])
items_formed (least wl ps) = (refl, spots_formed 1 ps)

module _ (r : Record) where
  pub lines_run : read_lines record_kind start 1 (lines (record_text r)) ≡ run_items record_kind start 1 (record_items r)
  unfolding record_text
  lines_run = read_items record_kind words_told start 1 (record_items r) (items_formed r)

  pub record_run : length (record_text r) ≤ 16384 → read_record (record_text r) ≡ part_read (λ (s : Part). s.result) (run_items record_kind start 1 (record_items r))
  unfolding read_record
  record_run h = ap (part_read (λ (s : Part). s.result)) (read_text_short record_kind start (record_text r) h ∙ lines_run)
