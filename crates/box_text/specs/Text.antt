-- What is written for a chip's record with the boxes of its nets (document 02, Card 2): "what `place` prints and, after the record's `done`, one line per net ..
-- A `none` record gets no boxes."
use Rattle.std.specs.Prelude.{ℕ, suc, List, [], ◌∷◌, ◌++◌, map, pos}
use Rattle.model.specs.Meaning.{Chip, Record, none, least}
use Rattle.text_grammar.specs.Line.{number}
use Rattle.text_grammar.specs.Words as grammar
use Rattle.text_grammar.specs.Words.{items_text}
use Rattle.record_text.specs.Text.{record_text}
use Rattle.placement.specs.Integers.{NetBox, net_box_z, integers}
use Rattle.box_text.specs.Words.{BoxWord, box, box_words}

-- a line of a box
abbrev pub Item : Type 0
Item = grammar.Item BoxWord

-- the line of net n with the box b
abbrev pub box_item : ℕ → NetBox → Item
box_item n b = record { word = box; values = number (pos n) ∷ number b.left ∷ number b.right ∷ number b.bottom ∷ number b.top ∷ [] }

-- the lines of nets n, n + 1 and so on
unfoldable pub box_items : ℕ → List NetBox → List Item
box_items n [] = []
box_items n (b ∷ bs) = box_item n b ∷ box_items (suc n) bs

-- the boxes that go with a record: of each net of the chip, in file order, at the record's placement
abbrev pub boxes_at : Chip → Record → List NetBox
boxes_at c none = []
boxes_at c (least wl ps) = map (net_box_z (integers ps)) c.nets

-- the text of a record, then the lines of those boxes
unfoldable pub boxed_text : Chip → Record → List ℕ
boxed_text c r = record_text r ++ items_text box_words (box_items 1 (boxes_at c r))
