-- What the chip reader's answer means.
use Rattle.std.specs.Prelude.{Result, Ok, Err}
use Rattle.model.specs.declared.Refusal.{Refusal}
use Rattle.model.specs.declared.Chip.{Chip as HeldChip}
use Rattle.model.specs.Meaning.{Chip, chip_of}
use Rattle.model.specs.Held.{held_chip}
use Rattle.text_grammar.specs.Reading.{Reading, accepted, refused}

-- document 01's number and values for each case of the answer
abbrev pub meant_chip : Result HeldChip Refusal → Reading Chip
meant_chip (Ok c) = accepted (chip_of c)
meant_chip (Err f) = refused f.no f.line

-- the whole answer for a text that is read so
abbrev pub chip_answer : Reading Chip → Result HeldChip Refusal
chip_answer (accepted c) = Ok (held_chip c)
chip_answer (refused n l) = Err (record { no = n; line = l })
