-- The line of a refusal. Document 01, "The search and its record": the program prints `refused,no,4,line,1` (number, line). Lines end with LF.
use Rattle.std.specs.Prelude.{ℕ, cond, List, [], ◌∷◌, ◌++◌, leb, eqb, length}
use Rattle.num_text.specs.Number.{digits}
use Rattle.text_grammar.specs.Line.{line_feed}
use Rattle.text_grammar.specs.Reading.{Reading, accepted, refused}
use Rattle.text_grammar.specs.Writing.{Answer, wrote, not_written, Written, refuse, if_room}

-- `refused,no,`
abbrev pub refused_no : List ℕ
refused_no = 114 ∷ 101 ∷ 102 ∷ 117 ∷ 115 ∷ 101 ∷ 100 ∷ 44 ∷ 110 ∷ 111 ∷ 44 ∷ []

-- `,line,`
abbrev pub in_line : List ℕ
in_line = 44 ∷ 108 ∷ 105 ∷ 110 ∷ 101 ∷ 44 ∷ []

-- the line of refusal number n, found in line l
unfoldable pub refusal_line : ℕ → ℕ → List ℕ
refusal_line n l = refused_no ++ (digits n ++ (in_line ++ (digits l ++ (line_feed ∷ []))))

-- what is printed for a text that is read so, with a text for each meaning: that text, or the line of the refusal
abbrev pub printed_for : {A : Type 0} → (A → List ℕ) → Reading A → List ℕ
printed_for f (accepted a) = f a
printed_for f (refused n l) = refusal_line n l

-- the line of a refusal in a lent buffer: in its first bytes, and the rest as it was; 15 where the buffer is shorter, and all of it as it was
abbrev pub write_refusal : ℕ → ℕ → List ℕ → Written
write_refusal n l out = if_room (leb (length (refusal_line n l)) (length out)) (refusal_line n l) out

-- what is shown for an answer: the text that was written, or the line of the refusal; 15 is that of the buffer and stays
abbrev pub shown : Answer → List ℕ → Written
shown (wrote n) out = record { answer = wrote n; buffer = out }
shown (not_written n l) out = cond (eqb n 15) (refuse n l out) (write_refusal n l out)
