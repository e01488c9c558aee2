-- The line of a refusal: how it is written, and that it is short.
use Rattle.std.specs.Prelude.{Ok, Err, Result}
use Prim.Native.Nat.{ℕ, ◌≤◌, ◌<◌, ◌^◌}
use mathlib.Core.Path.{◌≡◌, refl, ap, ◌∙◌}
use mathlib.Core.Bool.{Bool, true, false}
use mathlib.Core.List.{List, [], ◌∷◌, ◌++◌}
use native.Mathlib.Omega.{arith}
use lib.Dec.{leb}
use lib.ListN.{length, length-append}
use Rattle.num_text.specs.Number.{digits}
use Rattle.num_text.specs.Held.{Wrote}
use Rattle.num_text.proofs.Wrote.{wrote_then, wrote_length}
use Rattle.text_grammar.specs.Line.{line_feed}
use borrow.Author.Tests.{ne_eqb}
use Rattle.model.specs.declared.Refusal.{Refusal}
use Rattle.text_grammar.specs.Reading.{Reading, accepted, refused}
use Rattle.text_grammar.specs.Writing.{Written, wrote, not_written, answer_of, refuse, if_room, write_read}
use Rattle.text_grammar.proofs.Fit.{too_short, all_fits}
use Rattle.text_grammar.proofs.Lengths.{digits_short}
use Rattle.text_refusal.specs.Refusal.{refused_no, in_line, refusal_line, printed_for, shown}

pub line_written : (n l : ℕ) (b m k a : List ℕ) (at i j r : ℕ) → length b < 2 ^ 64 → Wrote b m (refused_no ++ digits n) at i → Wrote m k (in_line ++ digits l) i j → Wrote k a (line_feed ∷ []) j r → Wrote b a (refusal_line n l) at r
unfolding refusal_line
line_written n l b m k a at i j r h p q u =
    wrote_then b m a (refused_no ++ digits n) _ at i r h p (wrote_then m k a (in_line ++ digits l) _ i j r (rw (wrote_length b m _ at i p) h) q u)

-- it has at most 58 bytes where number and line have 64 bits
line_short : (n l : ℕ) → n < 2 ^ 64 → l < 2 ^ 64 → length (refusal_line n l) ≤ 58
unfolding refusal_line
line_short n l h g =
    let a = digits_short n 19 (omega arith) in
    let b = digits_short l 19 (omega arith) in
    rw (length-append (digits n), length-append (digits l)) (omega arith)

-- what is left in a buffer that is too short for it, and in one that is not
module _ (n l : ℕ) (x y b : List ℕ) (k : ℕ) (h : n < 2 ^ 64) (g : l < 2 ^ 64) (told : Wrote x y (refusal_line n l) 0 k) where
  pub line_too_long : length b < k → refuse 15 0 b ≡ if_room (leb (length (refusal_line n l)) (length b)) (refusal_line n l) b
  line_too_long = let s = line_short n l h g in too_short (refusal_line n l) x y b k (omega arith) told

  pub line_fits : (a : List ℕ) (r : ℕ) → k ≤ length b → Wrote b a (refusal_line n l) 0 r → record { answer = wrote r; buffer = a } ≡ if_room (leb (length (refusal_line n l)) (length b)) (refusal_line n l) b
  line_fits = let s = line_short n l h g in all_fits (refusal_line n l) x y b k (omega arith) told

-- `refused,no,10,line,16385` and LF
pub refusal_short : (n l : ℕ) → n ≤ 99 → l ≤ 16385 → length (refusal_line n l) ≤ 25
unfolding refusal_line
refusal_short n l h g =
    let a = digits_short n 1 (omega arith) in
    let b = digits_short l 4 (omega arith) in
    simp length-append (omega arith)

-- ---- what is printed for a text that is read

module _ {A : Type 0} (f : A → List ℕ) (r : Reading A) where
  pub printed_for_short : (k : ℕ) → 25 ≤ k → ((a : A) → r ≡ accepted a → length (f a) ≤ k) → ((n l : ℕ) → r ≡ refused n l → (n ≤ 99) × (l ≤ 16385)) → length (printed_for f r) ≤ k
  printed_for_short k h g told = by r refl
    where
      by : (s : Reading A) → r ≡ s → length (printed_for f s) ≤ k
      by (accepted a) e = g a e
      by (refused n l) e = let t = told n l e in let q = refusal_short n l t.0 t.1 in omega arith

  -- what is shown for an answer and the buffer that it left
  abbrev shown_of : Written → Written
  shown_of w = shown w.answer w.buffer

  -- a text that was written, or not for want of room, stays
  stays : (x : Bool) (t b : List ℕ) → shown_of (if_room x t b) ≡ if_room x t b
  stays true t b = refl
  stays false t b = refl

  -- what is shown for the answer is what is printed: no reading is refused by 15
  module _ (told : (n l : ℕ) → r ≡ refused n l → n ≡ 15 → ⊥) (b : List ℕ) where
    read_shown : (s : Reading A) → r ≡ s → shown_of (write_read f s b) ≡ if_room (leb (length (printed_for f s)) (length b)) (printed_for f s) b
    read_shown (accepted a) q = stays (leb (length (f a)) (length b)) (f a) b
    read_shown (refused n l) q = rw (ne_eqb n 15 (told n l q))

    pub read_printed : (m : List ℕ) (a : Result ℕ Refusal) → record { answer = answer_of a; buffer = m } ≡ write_read f r b → (w : Result ℕ Refusal) (z : List ℕ) → record { answer = answer_of w; buffer = z } ≡ shown (answer_of a) m → record { answer = answer_of w; buffer = z } ≡ if_room (leb (length (printed_for f r)) (length b)) (printed_for f r) b
    read_printed m a e w z p = p ∙ (ap shown_of e ∙ read_shown r refl)
