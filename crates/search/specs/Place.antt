-- What the services of the search answer and leave in the lent buffer. Document 01, "The search and its record" and "Refusal table": a chip
-- alone fixes its record; a chip held as a value is tested first as its text would be, and a text is read; then 15 where the buffer is shorter
-- than the record; a refusal writes nothing, and bytes past the record are not touched.
use Rattle.std.specs.Prelude.{List, ℕ, Result, Ok, Err}
use Rattle.model.specs.declared.Refusal.{Refusal}
use Rattle.model.specs.Meaning.{Chip, Record, chip_of, record_of}
use Rattle.text_grammar.specs.Reading.{Reading, accepted, refused, part_read}
use Rattle.text_grammar.specs.Writing.{Written, write_text, write_read}
use Rattle.chip_text.specs.Text.{read_chip, chip_text}
use Rattle.record_text.specs.Text.{record_text}
use Rattle.placement.specs.Least.{chip_record}
use Rattle.search.specs.declared.service.Found.{Found}

-- the record of a chip that is held as a value
abbrev pub search_chip : Chip → List ℕ → Written
search_chip c out = write_text (read_chip (chip_text c)) (record_text (chip_record c)) out

-- the chip that a text is read as, with its record
abbrev pub placed_read : Reading Chip → Reading (Chip × Record)
placed_read r = part_read (λ (c : Chip). (c, chip_record c)) r

-- document 01's number and values for each case of what the search finds
abbrev pub meant_found : Result Found Refusal → Reading (Chip × Record)
meant_found (Ok p) = accepted (chip_of p.chip, record_of p.best)
meant_found (Err f) = refused f.no f.line

-- the text of a chip's record
abbrev pub record_for : Chip → List ℕ
record_for c = record_text (chip_record c)

-- the record of the chip that a text is read as, written
abbrev pub place_read : Reading Chip → List ℕ → Written
place_read r out = write_read record_for r out

abbrev pub place_text : List ℕ → List ℕ → Written
place_text text out = place_read (read_chip text) out
