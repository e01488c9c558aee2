-- Reading and writing of records: `read_record` is what a text means, `record_text` the one text of a record, `write_record` what writing leaves in a lent buffer.
use Rattle.std.specs.Prelude.{ℕ, suc, List, [], ◌∷◌, ◌++◌, pos}
use Rattle.model.specs.declared.Spot.{Spot}
use Rattle.record_text.specs.declared.RecordWord.{RecordWord}
use Rattle.record_text.specs.declared.RecordWord.TheVariants as word
use Rattle.model.specs.Meaning.{Record, none, least}
use Rattle.text_grammar.specs.Line.{number}
use Rattle.text_grammar.specs.Words as grammar
use Rattle.text_grammar.specs.Words.{items_text}
use Rattle.text_grammar.specs.Reading.{Reading, part_read, read_text}
use Rattle.text_grammar.specs.Writing.{Written, write_text}
use Rattle.record_text.specs.Words.{record_words}
use Rattle.record_text.specs.Kind.{start, record_kind}

-- a text is accepted as the record that it means, or refused with number and line
unfoldable pub read_record : List ℕ → Reading Record
read_record text = part_read (λ s. s.result) (read_text record_kind start text)

-- ---- the lines of a record

-- a line of a record
abbrev pub Item : Type 0
Item = grammar.Item RecordWord

-- the first line of a record with a placement, or without one, and the last line
abbrev pub least_item : ℕ → Item
least_item wl = record { word = word.Least; values = number (pos wl) ∷ [] }

abbrev pub none_item : Item
none_item = record { word = word.None; values = [] }

abbrev pub done_item : Item
done_item = record { word = word.Done; values = [] }

-- the line of macro m with its corner at p
abbrev pub at_item : ℕ → Spot → Item
at_item m p = record { word = word.At; values = number (pos m) ∷ number (pos p.x) ∷ number (pos p.y) ∷ [] }

-- the lines of macros m, m + 1 and so on
unfoldable pub at_items : ℕ → List Spot → List Item
at_items m [] = []
at_items m (p ∷ ps) = at_item m p ∷ at_items (suc m) ps

-- the lines of a record before the last one
abbrev pub body : Record → List Item
body none = none_item ∷ []
body (least wl ps) = least_item wl ∷ at_items 1 ps

-- all lines of a record
unfoldable pub record_items : Record → List Item
record_items r = body r ++ (done_item ∷ [])

-- the one text of a record
unfoldable pub record_text : Record → List ℕ
record_text r = items_text record_words (record_items r)

-- a record held as a value is tested first as its text would be, then written
abbrev pub write_record : Record → List ℕ → Written
write_record r out = write_text (read_record (record_text r)) (record_text r) out
