-- What `place` prints for a text. Document 01, "The search and its record": the program prints the record, or `refused,no,4,line,1`
-- (number, line). Lines end with LF.
use Rattle.std.specs.Prelude.{ℕ, List, leb, length}
use Rattle.text_grammar.specs.Writing.{Written, if_room}
use Rattle.chip_text.specs.Text.{read_chip}
use Rattle.text_refusal.specs.Refusal.{printed_for}
use Rattle.search.specs.Place.{record_for}

-- the bytes that are printed for a text: the text of the chip's record, or the line of the refusal
abbrev pub printed : List ℕ → List ℕ
printed text = printed_for record_for (read_chip text)

-- the same into a lent buffer: in its first bytes, and the rest as it was; 15 where the buffer is shorter, and all of it as it was
abbrev pub print_text : List ℕ → List ℕ → Written
print_text text out = if_room (leb (length (printed text)) (length out)) (printed text) out
