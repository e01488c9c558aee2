-- A record with the boxes of its nets has at most 1,495 bytes, where every number is in its range: `boxed_short`. That is 192 of the record, 40 for each of
-- nets 1 to 9 and 41 for each of nets 10 to 32.
use Prim.Native.Nat.{ℕ, suc, ◌+◌, ◌-◌, ◌*◌, ◌≤◌, ◌<◌, min}
use mathlib.Core.Path.{◌≡◌}
use mathlib.Core.Bool.{true}
use mathlib.Core.List.{List, [], ◌∷◌}
use native.Mathlib.Decide.{dec_lt}
use native.Mathlib.Omega.{arith}
use lib.Dec.{leb}
use lib.IntN.{ℤ, pos, negsuc}
use lib.ListN.{length, length-append}
use borrow.Author.Tests.{leb-true}
use Rattle.num_text.specs.Number.{number_text}
use Rattle.model.specs.Limits.{is_within, box_end}
use Rattle.model.specs.Meaning.{Chip, Record}
use Rattle.text_grammar.specs.Line.{fields_text}
use Rattle.text_grammar.specs.Words.{item_text, items_text}
use Rattle.text_grammar.proofs.Every.{Every}
use Rattle.text_grammar.proofs.Items.{Within}
use Rattle.text_grammar.proofs.Lacks.{and_left, and_right}
use Rattle.text_grammar.proofs.Lengths.{digits_short, number_short}
use Rattle.text_grammar.proofs.Values.{passing}
use Rattle.record_text.proofs.Short.{within_short}
use Rattle.placement.specs.Integers.{NetBox}
use Rattle.box_text.specs.Words.{box, form, box_words}
use Rattle.box_text.specs.Text.{box_item, box_items, boxes_at, boxed_text}
use Rattle.box_text.proofs.SameText.{InRange}

-- an end has at most four digits, and a sign before them
end_short : (z : ℤ) → is_within box_end z ≡ true → length (number_text z) ≤ 5
end_short (pos n) e = let h = leb-true n 5120 (and_right true _ e) in number_short (pos n) 3 (omega arith)
end_short (negsuc n) e = let h = leb-true n 4095 (and_left _ true e) in number_short (negsuc n) 3 (omega arith)

-- the number of a net has one digit below 10, else two
net_short : (n : ℕ) → n ≤ 32 → length (number_text (pos n)) + min 1 (10 - n) ≤ 2
net_short n h = by (dec_lt n 10)
  where
    by : Dec (n < 10) → length (number_text (pos n)) + min 1 (10 - n) ≤ 2
    by (yes l) = let k = digits_short n 0 (omega arith) in omega arith
    by (no l) = let k = digits_short n 1 (omega arith) in omega arith

-- `box,n,32,l,-4096,r,-4096,b,-4096,t,-4096` and LF
box_short : (n : ℕ) (b : NetBox) → Within box_words (box_item n b) → (n ≤ 32) × (length (item_text box_words (box_item n b)) + min 1 (10 - n) ≤ 41)
unfolding item_text fields_text
box_short n b e =
    let a = passing (form box) (box_item n b).values (box_item n b).values e in
    let q = leb-true n 32 (and_right (leb 1 n) (leb n 32) a.0) in
    let k = net_short n q in
    let l = end_short b.left a.1.0 in
    let r = end_short b.right a.1.1.0 in
    let s = end_short b.bottom a.1.1.1.0 in
    let t = end_short b.top a.1.1.1.1.0 in
    (q, simp length-append (omega arith))

-- the lines of nets n, n + 1 .. 32 at most
boxes_short : (n : ℕ) (bs : List NetBox) → 1 ≤ n → Every (Within box_words) (box_items n bs) → (length bs ≤ 33 - n) × (length (items_text box_words (box_items n bs)) + min (10 - n) (length bs) ≤ 41 * length bs)
unfolding box_items items_text
boxes_short n [] h e = (omega arith, omega arith)
boxes_short n (b ∷ bs) h e =
    let a = box_short n b e.0 in
    let k = boxes_short (suc n) bs (omega arith) e.1 in
    (omega arith, rw length-append (omega arith))

pub boxed_short : (c : Chip) (r : Record) → InRange c r → length (boxed_text c r) ≤ 1495
unfolding boxed_text
boxed_short c r h =
    let a = within_short r h.lines in
    let b = boxes_short 1 (boxes_at c r) (omega arith) h.boxes in
    rw length-append (omega arith)
