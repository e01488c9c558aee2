-- A record with the box of each net, from the chip's text (document 02, Card 2), and what the program `boxes` prints: "A second program prints what `place`
-- prints and, after the record's `done`, one line per net .. A `none` record gets no boxes."
use Rattle.std.specs.Prelude.{ℕ, List, leb, length}
use Rattle.model.specs.Meaning.{Chip}
use Rattle.text_grammar.specs.Writing.{Written, if_room, write_read}
use Rattle.chip_text.specs.Text.{read_chip}
use Rattle.text_refusal.specs.Refusal.{printed_for}
use Rattle.placement.specs.Least.{chip_record}
use Rattle.box_text.specs.Text.{boxed_text}

-- the text of a chip's record with the boxes of its nets
abbrev pub boxes_for : Chip → List ℕ
boxes_for c = boxed_text c (chip_record c)

-- that text into a lent buffer: the refusal of reading, then 15 where the buffer is shorter than the whole
abbrev pub boxes_text : List ℕ → List ℕ → Written
boxes_text text out = write_read boxes_for (read_chip text) out

-- the bytes that are printed for a chip's text: that text, or the line of the refusal
abbrev pub printed_boxes : List ℕ → List ℕ
printed_boxes text = printed_for boxes_for (read_chip text)

-- the same into a lent buffer: in its first bytes, and the rest as it was; 15 where the buffer is shorter, and all of it as it was
abbrev pub print_boxes : List ℕ → List ℕ → Written
print_boxes text out = if_room (leb (length (printed_boxes text)) (length out)) (printed_boxes text) out
