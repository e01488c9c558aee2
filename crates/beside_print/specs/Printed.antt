-- What the program `beside` prints for a chip and a record (document 02, Card 1): `passed`, or the line of the refusal as `place` prints it. Lines end with LF.
use Rattle.std.specs.Prelude.{ℕ, List, [], ◌∷◌, leb, length}
use Rattle.text_grammar.specs.Line.{line_feed}
use Rattle.text_grammar.specs.Writing.{Written, if_room}
use Rattle.text_refusal.specs.Refusal.{refusal_line}
use Rattle.beside_check.specs.Beside.{Beside, passed, refused, check_beside}

-- `passed`
abbrev pub passed_line : List ℕ
passed_line = 112 ∷ 97 ∷ 115 ∷ 115 ∷ 101 ∷ 100 ∷ line_feed ∷ []

-- the line for an answer
abbrev pub beside_line : Beside → List ℕ
beside_line passed = passed_line
beside_line (refused number line text) = refusal_line number line

-- the bytes that are printed for the two texts
abbrev pub printed_beside : List ℕ → List ℕ → List ℕ
printed_beside chip beside = beside_line (check_beside chip beside)

-- the same into a lent buffer: in its first bytes, and the rest as it was; 15 where the buffer is shorter, and all of it as it was
abbrev pub print_beside : List ℕ → List ℕ → List ℕ → Written
print_beside chip beside out = if_room (leb (length (printed_beside chip beside)) (length out)) (printed_beside chip beside) out
