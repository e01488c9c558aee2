-- A record's text has at most 192 bytes: `record_short`, of every text that is read as a record. Each value of an accepted text is in its range, so it
-- has few digits; and m is at most 8, so there are at most 8 macros.
use Prim.Native.Nat.{ℕ, suc, ◌+◌, ◌-◌, ◌*◌, ◌≤◌}
use mathlib.Core.Path.{◌≡◌, ap, subst, ◌∙◌}
use mathlib.Core.List.{List, [], ◌∷◌, ◌++◌}
use native.Mathlib.Omega.{arith}
use mathlib.Core.Bool.{true, ◌&&◌}
use lib.Dec.{leb}
use lib.ListN.{length, length-append}
use borrow.Author.Tests.{leb-true}
use Rattle.model.specs.declared.Spot.{Spot}
use Rattle.model.specs.Meaning.{Record, none, least}
use Rattle.text_grammar.specs.Line.{fields_text}
use Rattle.text_grammar.specs.Words.{item_text, items_text}
use Rattle.text_grammar.specs.Reading.{accepted, read_text}
use Rattle.text_grammar.proofs.Every.{Every}
use Rattle.text_grammar.proofs.Items.{Within, items_read, read_text_lines}
use Rattle.text_grammar.proofs.Lacks.{and_right}
use Rattle.text_grammar.proofs.Lengths.{digits_short}
use Rattle.text_grammar.proofs.Meaning.{part_accepted}
use Rattle.text_grammar.proofs.Values.{passing}
use Rattle.record_text.specs.declared.RecordWord.TheVariants as word
use Rattle.record_text.specs.Words.{form, record_words}
use Rattle.record_text.specs.Kind.{Part, start, record_kind}
use Rattle.record_text.specs.Text.{least_item, done_item, at_item, at_items, record_items, record_text, read_record}
use Rattle.record_text.proofs.ReadText.{record_means, read_text_law}

-- a value that passes its test is at most the top of its range
top : (lo n hi : ℕ) → (leb lo n && leb n hi) ≡ true → n ≤ hi
top lo n hi e = leb-true n hi (and_right (leb lo n) (leb n hi) e)

-- `at,m,8,x,1024,y,1024` and LF
at_short : (m : ℕ) (p : Spot) → Within record_words (at_item m p) → (m ≤ 8) × (length (item_text record_words (at_item m p)) ≤ 21)
unfolding item_text fields_text
at_short m p e =
    let a = passing (form word.At) (at_item m p).values (at_item m p).values e in
    let q = top 1 m 8 a.0 in
    let r = top 0 p.x 1024 a.1.0 in
    let s = top 0 p.y 1024 a.1.1.0 in
    let i = digits_short m 0 (omega arith) in
    let j = digits_short p.x 3 (omega arith) in
    let l = digits_short p.y 3 (omega arith) in
    (q, simp length-append (omega arith))

-- `least,wl,589824000` and LF
least_short : (wl : ℕ) → Within record_words (least_item wl) → length (item_text record_words (least_item wl)) ≤ 19
unfolding item_text fields_text
least_short wl e =
    let a = passing (form word.Least) (least_item wl).values (least_item wl).values e in
    let q = top 0 wl 589824000 a.0 in
    let i = digits_short wl 8 (omega arith) in
    simp length-append (omega arith)

-- the lines of the macros m, m + 1 .. 8 at most, and `done`
ats_short : (m : ℕ) (ps : List Spot) → Every (Within record_words) (at_items m ps ++ (done_item ∷ [])) → (length ps ≤ 9 - m) × (length (items_text record_words (at_items m ps ++ (done_item ∷ []))) ≤ 21 * length ps + 5)
unfolding at_items items_text item_text fields_text
ats_short m [] e = (omega arith, omega arith)
ats_short m (p ∷ ps) e =
    let a = at_short m p e.0 in
    let b = ats_short (suc m) ps e.1 in
    (omega arith, rw length-append (omega arith))

pub within_short : (r : Record) → Every (Within record_words) (record_items r) → length (record_text r) ≤ 192
unfolding record_text record_items items_text item_text fields_text
within_short none e = omega arith
within_short (least wl ps) e =
    let a = least_short wl e.0 in
    let b = ats_short 1 ps e.1 in
    rw length-append (omega arith)

pub accepted_within : (t : List ℕ) (r : Record) → read_record t ≡ accepted r → Every (Within record_words) (record_items r)
unfolding read_record
accepted_within t r e =
    let b = part_accepted (λ (s : Part). s.result) (read_text record_kind start t) r e in
    let i = items_read record_kind record_means.told start b.0 1 t (read_text_lines record_kind start t b.0 b.1) in
    subst (Every (Within record_words)) (record_means.run b.0 1 i.items i.formed i.run ∙ ap record_items b.2) i.within

pub record_short : (t : List ℕ) (r : Record) → read_record t ≡ accepted r → length t ≤ 192
record_short t r e = rw (read_text_law t r e) (within_short r (accepted_within t r e))
