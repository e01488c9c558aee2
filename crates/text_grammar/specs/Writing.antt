-- What writing a value leaves in a lent buffer. Document 01: a value is tested first as its text would be, then 15; a refusal writes nothing;
-- bytes past a written text are not touched.
use Rattle.std.specs.Prelude.{ℕ, List, ◌++◌, Bool, true, false, leb, length, drop, Result, Ok, Err}
use Rattle.model.specs.declared.Refusal.{Refusal}
use Rattle.text_grammar.specs.Reading.{Reading, accepted, refused}

-- what a writer answers: the length of the text written, or number and line
pub data Answer : Type 0 where
  wrote : ℕ → Answer
  not_written : ℕ → ℕ → Answer

-- document 01's number and values for each case of the program's answer
abbrev pub answer_of : Result ℕ Refusal → Answer
answer_of (Ok n) = wrote n
answer_of (Err f) = not_written f.no f.line

-- the same for the answer of a test of the value a
abbrev pub tested_as : {A : Type 0} → A → Result (Unit {0}) Refusal → Reading A
tested_as a (Ok _) = accepted a
tested_as a (Err f) = refused f.no f.line

-- the answer and the buffer that it leaves
pub record Written : Type 0 where
  pub answer : Answer
  pub buffer : List ℕ

-- refusal n at line l; the buffer keeps its bytes
abbrev pub refuse : ℕ → ℕ → List ℕ → Written
refuse n l out = record { answer = not_written n l; buffer = out }

-- a text written into a buffer, by whether it fits: the bytes after it stay, or refusal 15
abbrev pub if_room : Bool → List ℕ → List ℕ → Written
if_room true text out = record { answer = wrote (length text); buffer = text ++ drop (length text) out }
if_room false text out = refuse 15 0 out

-- a value with that text, which is read as the first argument says, written into the buffer out
abbrev pub write_text : {A : Type 0} → Reading A → List ℕ → List ℕ → Written
write_text (accepted a) text out = if_room (leb (length text) (length out)) text out
write_text (refused n l) text out = refuse n l out

-- what a text that is read so leads to, with a text for each meaning: the refusal of reading, or that text written into the buffer out
abbrev pub write_read : {A : Type 0} → (A → List ℕ) → Reading A → List ℕ → Written
write_read f (accepted a) out = write_text (accepted a) (f a) out
write_read f (refused n l) out = refuse n l out
