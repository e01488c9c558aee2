-- What the record reader's answer means.
use Rattle.std.specs.Prelude.{Result, Ok, Err}
use Rattle.model.specs.declared.Refusal.{Refusal}
use Rattle.model.specs.declared.Record.{Record as HeldRecord}
use Rattle.model.specs.Meaning.{Record, record_of}
use Rattle.model.specs.Held.{held_record}
use Rattle.text_grammar.specs.Reading.{Reading, accepted, refused}

-- document 01's number and values for each case of the answer
abbrev pub meant_record : Result HeldRecord Refusal → Reading Record
meant_record (Ok r) = accepted (record_of r)
meant_record (Err f) = refused f.no f.line

-- the whole answer for a text that is read so
abbrev pub record_answer : Reading Record → Result HeldRecord Refusal
record_answer (accepted r) = Ok (held_record r)
record_answer (refused n l) = Err (record { no = n; line = l })
