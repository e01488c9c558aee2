-- Reading a text line by line. Document 01, "Refusal table": 1; then lines from the top, the first faulty line counting; in a line: missing LF 2,
-- word 2, place 5, count 6, 7, then fields from the left, leftover bytes 2, then 8, 9, 10. A text over without its last line is 5, at the line number
-- after the last.
use Rattle.std.specs.Prelude.{ℕ, suc, List, [], ◌∷◌, Bool, false, leb, length}
use Rattle.model.specs.Step.{Step, next, fault, check, on_next}
use Rattle.text_grammar.specs.Line.{Line, lines, up_to, from, comma, Value, fields}
use Rattle.text_grammar.specs.Words.{Words, is_word, is_in, word_in}

-- what a text means, or why it is refused: number and line
pub data Reading (A : Type 0) : Type 0 where
  accepted : A → Reading A
  refused : ℕ → ℕ → Reading A

-- what the step of line l leads to: the reading goes on, or the refusal of its fault
abbrev pub onward : {A B : Type 0} → Step A → ℕ → (A → Reading B) → Reading B
onward (next a) l more = more a
onward (fault n) l more = refused n l

-- the part f of what a text means
abbrev pub part_read : {A B : Type 0} → (A → B) → Reading A → Reading B
part_read f (accepted a) = accepted (f a)
part_read f (refused n l) = refused n l

-- the word of the last line that was read, or that there was none yet
pub data Last (W : Type 0) : Type 0 where
  before : Last W
  after : W → Last W

-- the last line has the word w
abbrev pub is_last : {W : Type 0} → Words W → Last W → W → Bool
is_last d before w = false
is_last d (after v) w = is_word d v w

-- a kind of text: its words, the greatest length of a text and, by what has been read so far (S), the words that may stand here, whether there is room
-- for one more of a word's kind, whether the net above it has a pin, what a line with its values adds or its fault (8, 9, 10), and whether the last line
-- has been read
pub record Kind (W S : Type 0) : Type 0 where
  pub words : Words W
  pub most_bytes : ℕ
  pub followers : S → List W
  pub has_room : S → W → Bool
  pub has_pin : S → W → Bool
  pub add : S → W → List Value → Step S
  pub complete : S → Bool

module _ {W S : Type 0} (k : Kind W S) where
  -- what a line with the word w adds, by the bytes after the word: place 5, count 6, 7 (a net without a pin, on the line after it), then its fields
  abbrev pub step_word : S → W → List ℕ → Step S
  step_word s w b =
      check (is_in k.words w (k.followers s)) 5
      (check (k.has_room s w) 6
      (check (k.has_pin s w) 7
      (on_next (fields (k.words.form w) b) (k.add s w))))

  -- what a line leads to that has its LF
  unfoldable pub step_bytes : S → List ℕ → Step S
  step_bytes s b = on_next (word_in k.words k.words.all (up_to comma b)) (λ w. step_word s w (from comma b))

  -- what a line leads to; a missing LF is fault 2
  abbrev pub step_line : S → Line → Step S
  step_line s l = check l.ended 2 (step_bytes s l.bytes)

  -- the lines from line n on; at the end of the text, where line n would begin, the last line must have been read, or refusal 5
  unfoldable pub read_lines : S → ℕ → List Line → Reading S
  read_lines s n [] = onward (check (k.complete s) 5 (next s)) n accepted
  read_lines s n (l ∷ ls) = onward (step_line s l) n (λ t. read_lines t (suc n) ls)

  -- a whole text, from what is known at the start; refusal 1 where it is too long
  unfoldable pub read_text : S → List ℕ → Reading S
  read_text start text = onward (check (leb (length text) k.most_bytes) 1 (next start)) 0 (λ s. read_lines s 1 (lines text))
