-- What is written for a record that is accepted has at most 65,536 bytes, whatever the chip: no end of a held box has more than ten digits.
use Prim.Native.Nat.{ℕ, zero, suc, ◌+◌, ◌*◌, ◌≤◌, ◌<◌, min}
use mathlib.Core.Path.{◌≡◌}
use mathlib.Core.List.{List, [], ◌∷◌, map}
use native.Mathlib.Decide.{dec_lt}
use native.Mathlib.Nat.{le_of_suc-le-suc}
use native.Mathlib.Omega.{arith}
use lib.IntN.{sub_ℕ, nat_abs}
use lib.ListN.{length, get_or, length-append}
use lib.Seq.{slice}
use Rattle.num_text.specs.Number.{number_text}
use Rattle.num_laws.specs.Spread.{top, bottom}
use Rattle.num_laws.proofs.Differences.{sub_up, sub_down}
use Rattle.num_laws.proofs.Spreads.{top_bottom, top_le}
use Rattle.model.specs.declared.Spot.{Spot}
use Rattle.model.specs.declared.Chip.{Chip}
use Rattle.model.specs.declared.Outcome.{Outcome}
use Rattle.model.specs.declared.Outcome.TheVariants as outcome
use Rattle.model.specs.declared.Pin.{Pin}
use Rattle.model.specs.declared.Record.{Record}
use Rattle.model.specs.Meaning.{record_of, blank_net}
use Rattle.chip_text.specs.Valid.{pins_before}
use Rattle.text_grammar.specs.Line.{fields_text}
use Rattle.text_grammar.specs.Reading.{accepted}
use Rattle.text_grammar.specs.Words.{item_text, items_text}
use Rattle.text_grammar.proofs.Lengths.{digits_short, number_short}
use Rattle.text_put.specs.Run.{run}
use Rattle.record_text.specs.Text.{read_record, record_text}
use Rattle.record_text.proofs.ReadText.{accepted_short}
use Rattle.measure_nets.specs.declared.NetBox.{NetBox}
use Rattle.measure_nets.specs.Box.{box_of}
use Rattle.measure_nets.specs.Held.{held_x, held_y, box_held}
use Rattle.measure_held.specs.Held.{box_at}
use Rattle.box_text.specs.Words.{box_words}
use Rattle.box_text.specs.Text.{box_item}
use Rattle.box_print.specs.Held.{box_line, outcome_boxes, held_text}

-- ---- an end

end_short : (v : ℕ) → v ≤ 4294967296 → length (number_text (sub_ℕ v 4096)) ≤ 11
end_short v h = number_short (sub_ℕ v 4096) 9 (by (dec_lt v 4096))
  where
    by : Dec (v < 4096) → nat_abs (sub_ℕ v 4096) < 10000000000
    by (yes l) = rw (sub_down v 4096 l) (omega arith)
    by (no l) = rw (sub_up v 4096 (omega arith)) (omega arith)

module _ (f : Pin → ℕ) (small : (p : Pin) → f p ≤ 4294967296) where
  places_small : (hs : List Pin) (i : ℕ) → i < length (map f hs) → get_or (map f hs) i 0 ≤ 4294967296
  places_small [] i l = absurd (omega arith)
  places_small (h ∷ hs) zero l = small h
  places_small (h ∷ hs) (suc i) l = places_small hs i (le_of_suc-le-suc l)

  top_small : (hs : List Pin) → top (map f hs) ≤ 4294967296
  top_small hs = top_le 4294967296 (map f hs) (record { at = places_small hs })

  bottom_small : (hs : List Pin) → bottom (map f hs) ≤ 4294967296
  bottom_small hs = let a = top_small hs in let b = top_bottom (map f hs) in omega arith

x_small : (ps : List Spot) (p : Pin) → held_x ps p ≤ 4294967296
unfolding held_x
x_small ps p = omega arith

y_small : (ps : List Spot) (p : Pin) → held_y ps p ≤ 4294967296
unfolding held_y
y_small ps p = omega arith

-- ---- the lines

record Small (b : NetBox) : Type 0 where
  left : b.left ≤ 4294967296
  right : b.right ≤ 4294967296
  bottom : b.bottom ≤ 4294967296
  top : b.top ≤ 4294967296

box_small : (ps : List Spot) (hs : List Pin) → Small (box_held ps hs)
box_small ps hs = record {
  left = bottom_small (held_x ps) (x_small ps) hs;
  right = top_small (held_x ps) (x_small ps) hs;
  bottom = bottom_small (held_y ps) (y_small ps) hs;
  top = top_small (held_y ps) (y_small ps) hs;
}

line_short : (n : ℕ) (b : NetBox) → n < 100 → Small b → length (item_text box_words (box_item n (box_of b))) ≤ 65
unfolding item_text fields_text
line_short n b h s =
    let k = digits_short n 1 (omega arith) in
    let l = end_short b.left s.left in
    let r = end_short b.right s.right in
    let u = end_short b.bottom s.bottom in
    let t = end_short b.top s.top in
    simp length-append (omega arith)

module _ (c : Chip) (ps : List Spot) where
  lines_short : (q k : ℕ) → q + k ≤ 32 → length (items_text box_words (run (box_line c ps) q k)) ≤ 65 * k
  unfolding run items_text
  lines_short q zero h = omega arith
  lines_short q (suc k) h = let a = line_short (suc q) (box_at ps c.nets c.pins q) (omega arith) (box_small ps (slice (pins_before q c.nets) (pins_before q c.nets + (get_or c.nets q blank_net).pins) c.pins)) in let b = lines_short (suc q) k (omega arith) in rw length-append (omega arith)

  boxes_short : (o : Outcome) → length (items_text box_words (outcome_boxes c o ps)) ≤ 2080
  unfolding items_text
  boxes_short outcome.None = omega arith
  boxes_short (outcome.Least wl n) = let a = lines_short 0 (min c.t 32) (omega arith) in omega arith

pub held_short : (c : Chip) (r : Record) → read_record (record_text (record_of r)) ≡ accepted (record_of r) → length (held_text c r) ≤ 65536
unfolding held_text
held_short c r e = let a = accepted_short (record_text (record_of r)) (record_of r) e in let b = boxes_short c r.spots r.outcome in rw length-append (omega arith)
