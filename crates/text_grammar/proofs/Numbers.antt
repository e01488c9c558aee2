-- The refusal numbers of reading a text are 1 to 10 (`read_number`) and its line is at most one past the greatest length of a text (`read_line`),
-- for every kind of text whose last tests have such numbers. A number comes from one of the tests of a line, from the end of the text or from its
-- length, so the laws go along the definition of reading.
use Prim.{Unit, tt}
use Prim.Native.Nat.{ℕ, suc, ◌+◌, ◌≤◌}
use mathlib.Core.Path.{◌≡◌, refl, subst}
use mathlib.Core.Bool.{Bool, true, false, ◌&&◌}
use mathlib.Core.List.{List, [], ◌∷◌}
use native.Mathlib.Omega.{arith}
use lib.Dec.{leb, eqb}
use lib.ListN.{length}
use borrow.Author.Tests.{leb-true}
use Rattle.num_text.specs.Number.{Numeral, no_number, numeral_of}
use Rattle.num_text.specs.Number as decimal
use Rattle.model.specs.Limits.{Range, is_within}
use Rattle.text_grammar.specs.Words.{Words, same, word_in}
use Rattle.model.specs.Step.{Step, next, fault, check, on_next}
use Rattle.text_grammar.specs.Line.{comma, line_feed, Line, before, cut, lines, up_to, from, Sort, numbers, strings, Value, number, string, absent, is_string, numbered, value_of, Rule, Form, over, one, either, strip, and_then, marked, fields}
use Rattle.text_grammar.specs.Reading.{Reading, accepted, refused, part_read, onward, Kind, step_word, step_bytes, step_line, read_lines, read_text}
use Rattle.text_grammar.specs.Steps.{in_place}
use Rattle.text_grammar.proofs.Lacks.{and_left, and_right}

-- n is one of the numbers 1 to most of the refusal table
pub record Numbered (most n : ℕ) : Type 0 where
  pub above : 1 ≤ n
  pub within : n ≤ most

pub in_table : (n : ℕ) → (leb 1 n && leb n 10) ≡ true → Numbered 10 n
in_table n e = record { above = leb-true 1 n (and_left (leb 1 n) (leb n 10) e); within = leb-true n 10 (and_right (leb 1 n) (leb n 10) e) }

-- ---- tests and steps

unfoldable pub OfStep : {A : Type 0} → Step A → Type 0
OfStep (next a) = Unit {0}
OfStep (fault n) = Numbered 10 n

pub check_numbered : {A : Type 0} (b : Bool) {n : ℕ} (x : Step A) → Numbered 10 n → OfStep x → OfStep (check b n x)
unfolding OfStep
check_numbered true x u h = h
check_numbered false x u h = u

on_numbered : {A B : Type 0} (x : Step A) (more : A → Step B) → OfStep x → ((a : A) → OfStep (more a)) → OfStep (on_next x more)
unfolding OfStep
on_numbered (next a) more h m = m a
on_numbered (fault n) more h m = h

-- ---- the fields of a line

then_numbered : (v : Value) (f : Step (List Value)) → OfStep f → OfStep (and_then v f)
unfolding OfStep
then_numbered v f h = on_numbered f (λ vs. next (v ∷ vs)) h (λ vs. tt)

number_numbered : (u : Numeral) (r : Range) → OfStep (numbered u r)
unfolding OfStep
number_numbered (decimal.number z) r = check_numbered (is_within r z) (next (number z)) (in_table 4 refl) tt
number_numbered no_number r = in_table 3 refl

value_numbered : (o : Sort) (s : List ℕ) → OfStep (value_of o s)
unfolding OfStep
value_numbered (numbers r) s = number_numbered (numeral_of s) r
value_numbered (strings set lo hi) s = check_numbered (is_string set lo hi s) (next (string s)) (in_table 3 refl) tt

marked_numbered : (x : Step (List ℕ)) (r : Rule) (more : List ℕ → Step (List Value)) (else : Step (List Value)) → ((t : List ℕ) → OfStep (more t)) → OfStep else → OfStep (marked x r more else)
marked_numbered (next s) r more else h g =
    on_numbered (value_of r.sort (up_to comma s)) (λ v. and_then v (more (from comma s))) (value_numbered r.sort (up_to comma s))
    (λ v. then_numbered v (more (from comma s)) (h (from comma s)))
marked_numbered (fault n) r more else h g = g

fields_numbered : (f : Form) (s : List ℕ) → OfStep (fields f s)
unfolding fields OfStep
fields_numbered over [] = tt
fields_numbered over (b ∷ s) = in_table 2 refl
fields_numbered (one r f) s = marked_numbered (strip r.mark s) r (λ t. fields f t) (fault 2) (λ t. fields_numbered f t) (in_table 2 refl)
fields_numbered (either r f g) s = marked_numbered (strip r.mark s) r (λ t. fields f t) (and_then absent (fields g s)) (λ t. fields_numbered f t) (then_numbered absent (fields g s) (fields_numbered g s))

-- ---- lines and texts

word_numbered : {W : Type 0} (d : Words W) (ws : List W) (s : List ℕ) → OfStep (word_in d ws s)
unfolding word_in OfStep
word_numbered d [] s = in_table 2 refl
word_numbered d (w ∷ ws) s = by (same (d.spell w) s) refl (word_numbered d ws s)
  where
    by : (t : Bool) → same (d.spell w) s ≡ t → OfStep (word_in d ws s) → OfStep (word_in d (w ∷ ws) s)
    by true q ih = rw (q, word_in) tt
    by false q ih = rw (q, word_in) ih

module _ {S : Type 0} where
  unfoldable OfReading : Reading S → Type 0
  OfReading (accepted s) = Unit {0}
  OfReading (refused n l) = Numbered 10 n

  onward_numbered : (x : Step S) (n : ℕ) (more : S → Reading S) → OfStep x → ((t : S) → OfReading (more t)) → OfReading (onward x n more)
  unfolding OfStep OfReading
  onward_numbered (next t) n more h m = m t
  onward_numbered (fault f) n more h m = h

  module _ {W : Type 0} (k : Kind W S) (adds : (s : S) (w : W) (vs : List Value) → OfStep (k.add s w vs)) where
    word_step_numbered : (s : S) (b : List ℕ) (w : W) → OfStep (step_word k s w b)
    word_step_numbered s b w =
        check_numbered (in_place k s w) _ (in_table 5 refl)
        (check_numbered (k.has_room s w) _ (in_table 6 refl)
        (check_numbered (k.has_pin s w) _ (in_table 7 refl) (on_numbered (fields (k.words.form w) b) (k.add s w) (fields_numbered (k.words.form w) b) (adds s w))))

    bytes_numbered : (s : S) (b : List ℕ) → OfStep (step_bytes k s b)
    unfolding step_bytes
    bytes_numbered s b = on_numbered (word_in k.words k.words.all (up_to comma b)) (λ w. step_word k s w (from comma b)) (word_numbered k.words k.words.all (up_to comma b)) (word_step_numbered s (from comma b))

    lines_numbered : (s : S) (n : ℕ) (ls : List Line) → OfReading (read_lines k s n ls)
    unfolding read_lines OfStep OfReading
    lines_numbered s n [] = onward_numbered (check (k.complete s) 5 (next s)) n accepted (check_numbered (k.complete s) (next s) (in_table 5 refl) tt) (λ t. tt)
    lines_numbered s n (l ∷ ls) =
        onward_numbered (step_line k s l) n (λ t. read_lines k t (suc n) ls) (check_numbered l.ended _ (in_table 2 refl) (bytes_numbered s l.bytes))
        (λ t. lines_numbered t (suc n) ls)

    text_numbered : (start : S) (t : List ℕ) → OfReading (read_text k start t)
    unfolding read_text OfStep
    text_numbered start t =
        onward_numbered (check (leb (length t) k.most_bytes) 1 (next start)) 0 (λ s. read_lines k s 1 (lines t))
        (check_numbered (leb (length t) k.most_bytes) (next start) (in_table 1 refl) tt) (λ s. lines_numbered s 1 (lines t))

part_numbered : {S A : Type 0} (f : S → A) (r : Reading S) → OfReading r → OfReading (part_read f r)
unfolding OfReading
part_numbered f (accepted s) h = tt
part_numbered f (refused n l) h = h

-- of a part of what a text means
pub read_number : {W S A : Type 0} (k : Kind W S) → ((s : S) (w : W) (vs : List Value) → OfStep (k.add s w vs)) → (start : S) (f : S → A) (t : List ℕ) (n l : ℕ) → part_read f (read_text k start t) ≡ refused n l → Numbered 10 n
unfolding OfReading
read_number k adds start f t n l e = subst OfReading e (part_numbered f (read_text k start t) (text_numbered k adds start t))

-- ---- the line of a refusal

-- a text has no more lines than bytes
before_count : (b : ℕ) (ls : List Line) → length (before b ls) ≤ suc (length ls)
before_count b [] = omega arith
before_count b (l ∷ ls) = omega arith

cut_count : (x : Bool) (b : ℕ) (ls : List Line) → length (cut x b ls) ≤ suc (length ls)
cut_count true b ls = omega arith
cut_count false b ls = before_count b ls

lines_count : (t : List ℕ) → length (lines t) ≤ length t
unfolding lines
lines_count [] = omega arith
lines_count (b ∷ t) = let h = cut_count (eqb b line_feed) b (lines t) in let i = lines_count t in omega arith

-- a refusal has a line up to most
abbrev UpTo : {A : Type 0} → ℕ → Reading A → Type 0
UpTo most (accepted s) = Unit {0}
UpTo most (refused f l) = l ≤ most

module _ {W S : Type 0} (k : Kind W S) where
  module _ (most : ℕ) where
    onward_line : (x : Step S) (n : ℕ) (more : S → Reading S) → n ≤ most → ((t : S) → UpTo most (more t)) → UpTo most (onward x n more)
    onward_line (next t) n more h m = m t
    onward_line (fault f) n more h m = h

    lines_line : (s : S) (n : ℕ) (ls : List Line) → n + length ls ≤ most → UpTo most (read_lines k s n ls)
    unfolding read_lines
    lines_line s n [] h = onward_line (check (k.complete s) 5 (next s)) n accepted (omega arith) (λ t. tt)
    lines_line s n (l ∷ ls) h = onward_line (step_line k s l) n (λ t. read_lines k t (suc n) ls) (omega arith) (λ t. lines_line t (suc n) ls (omega arith))

  text_line : (start : S) (t : List ℕ) → UpTo (suc k.most_bytes) (read_text k start t)
  unfolding read_text
  text_line start t = by (leb (length t) k.most_bytes) refl
    where
      by : (b : Bool) → leb (length t) k.most_bytes ≡ b → UpTo (suc k.most_bytes) (onward (check b 1 (next start)) 0 (λ s. read_lines k s 1 (lines t)))
      by true e = let h = leb-true (length t) k.most_bytes e in let i = lines_count t in lines_line (suc k.most_bytes) start 1 (lines t) (omega arith)
      by false e = omega arith

part_line : {S A : Type 0} (most : ℕ) (f : S → A) (r : Reading S) → UpTo most r → UpTo most (part_read f r)
part_line most f (accepted s) h = tt
part_line most f (refused n l) h = h

-- of a part of what a text means
pub read_line : {W S A : Type 0} (k : Kind W S) (start : S) (f : S → A) (t : List ℕ) (n l : ℕ) → part_read f (read_text k start t) ≡ refused n l → l ≤ suc k.most_bytes
read_line k start f t n l e = subst (UpTo (suc k.most_bytes)) e (part_line (suc k.most_bytes) f (read_text k start t) (text_line k start t))
