-- Reading line by line: what is left to read, and each end of the reading.
use mathlib.Core.Path.{◌≡◌, sym, ap, ◌∙◌}
use mathlib.Core.List.{List}
use Prim.Native.Nat.{ℕ, suc, ◌+◌, ◌≤◌, ◌<◌}
use native.Mathlib.Numerals.{add-one}
use native.Mathlib.Decide.{dec_le}
use native.Mathlib.Omega.{arith}
use lib.Dec.{leb}
use lib.ListN.{length, take, drop, drop_of_length-le}
use lib.Seq.{length-take-le, take_all}
use borrow.Author.Tests.{le-leb, lt-leb}
use Rattle.model.specs.Step.{Step, next, fault}
use Rattle.text_grammar.specs.Line.{lines}
use Rattle.text_grammar.specs.Reading.{Kind, refused, part_read, onward, step_line, read_lines, read_text}
use Rattle.text_grammar.specs.Steps.{need, ending, line_end, line_at}
use Rattle.text_grammar.proofs.LineAt.{lines_from}
use Rattle.text_grammar.proofs.Most.{told_above, told_within}

module _ {W S : Type 0} (k : Kind W S) (start : S) (text : List ℕ) where
  -- s is what the lines before `line` say, and the text from a on is left to read
  pub record Left (s : S) (a line : ℕ) : Type 0 where
    pub rest : read_text k start text ≡ read_lines k s line (lines (drop a text))

  -- ---- before the first line

  pub text_too_long : {A : Type 0} (f : S → A) → k.most_bytes < length text → refused 1 0 ≡ part_read f (read_text k start text)
  unfolding read_text
  text_too_long f h = rw (lt-leb (length text) k.most_bytes h)

  -- by the fault of its length
  module _ (n : ℕ) (e : n ≡ need (leb (length text) k.most_bytes) 1 0) where
    pub length_fails : {A : Type 0} (f : S → A) → (n ≡ 0 → ⊥) → refused n 0 ≡ part_read f (read_text k start text)
    length_fails f z = let q = told_above 1 (length text) k.most_bytes n e z in rw q.0 (text_too_long f q.1)

    pub length_fits : n ≡ 0 → length text ≤ k.most_bytes
    length_fits z = told_within 1 (length text) k.most_bytes n e (λ x. omega arith) z

  pub text_left : length text ≤ k.most_bytes → Left start 0 1
  unfolding read_text
  text_left h = record { rest = rw (le-leb (length text) k.most_bytes h) }

  module _ (s : S) (a line : ℕ) (left : Left s a line) where
    -- ---- a line

    module _ (z : ℕ) (end : z ≡ line_end text a) (h : a < length text) where
      rest_lines : (t : Step S) → t ≡ step_line k s (line_at text a z) → read_text k start text ≡ onward t line (λ p. read_lines k p (suc line) (lines (drop (suc z) text)))
      unfolding read_lines
      rest_lines t e = left.rest ∙ rw (lines_from text a z end h, e)

      pub text_fails : (n : ℕ) → fault n ≡ step_line k s (line_at text a z) → refused n line ≡ read_text k start text
      text_fails n e = sym (rest_lines (fault n) e)

      pub text_goes_on : (t : S) → next t ≡ step_line k s (line_at text a z) → Left t (z + 1) (line + 1)
      text_goes_on t e = record { rest = rest_lines (next t) e ∙ rw (add-one line, add-one z) }

    -- ---- after the last line

    pub text_ends : length text ≤ a → read_text k start text ≡ ending k s line
    unfolding read_lines lines
    text_ends h = left.rest ∙ rw (drop_of_length-le text {i = a} h)

-- the bytes past the greatest length do not count
module _ {W S A : Type 0} (k : Kind W S) (start : S) (f : S → A) where
  pub text_start : (text : List ℕ) (n : ℕ) → k.most_bytes < n → part_read f (read_text k start (take n text)) ≡ part_read f (read_text k start text)
  text_start text n h = by (dec_le (length text) n)
    where
      by : Dec (length text ≤ n) → part_read f (read_text k start (take n text)) ≡ part_read f (read_text k start text)
      by (yes l) = ap (λ (t : List ℕ). part_read f (read_text k start t)) (take_all n text l)
      by (no l) = sym (text_too_long k start (take n text) f (rw (length-take-le n text (omega arith)) h)) ∙ text_too_long k start text f (omega arith)
