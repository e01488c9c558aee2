-- A record read beside its chip (document 02, Card 1): "The chip is read first, then the record; the count, the legality and the length are tested, in that
-- order. A `none` record passes, and leastness is not examined here. It refuses a record with another count of macros by 13, an illegal placement by 16 and
-- a wl other than the measured one by 17, line 0, after all reading. .. a line is that of the text at fault."
use Rattle.std.specs.Prelude.{ℕ, List, [], ◌∷◌, eqb, length, Result, Ok, Err}
use Rattle.model.specs.Meaning.{Chip, Record, none, least}
use Rattle.refusals.specs.Tests.{Test, test, first_failed, unless_failed}
use Rattle.text_grammar.specs.Reading.{Reading, accepted, refused as not_read}
use Rattle.chip_text.specs.Text.{read_chip}
use Rattle.record_text.specs.Text.{read_record}
use Rattle.placement.specs.Integers.{legal_z, wirelength_z, integers}
use Rattle.beside_check.specs.declared.AtFault.{AtFault}
use Rattle.beside_check.specs.declared.AtFault.TheVariants as text
use Rattle.beside_check.specs.declared.BesideRefusal.{BesideRefusal}

-- what is answered: the record passes, or the number and the line of a refusal, and the text at fault, which the line is one of
pub data Beside : Type 0 where
  passed : Beside
  refused : ℕ → ℕ → AtFault → Beside

-- the numbers and the text at fault for each case of the program's answer
abbrev pub beside_as : Result (Unit {0}) BesideRefusal → Beside
beside_as (Ok _) = passed
beside_as (Err f) = refused f.refusal.no f.refusal.line f.text

-- the tests after all reading: the count, the legality and the length; a `none` record has none
abbrev pub beside_tests : Chip → Record → List Test
beside_tests c none = []
beside_tests c (least wl ps) =
    test 13 (eqb (length ps) (length c.macs))
    ∷ test 16 (legal_z c (integers ps))
    ∷ test 17 (eqb wl (wirelength_z c (integers ps)))
    ∷ []

-- the refusal of a record by one of them: neither text is at fault by itself
abbrev pub not_of_chip : ℕ → ℕ → Beside
not_of_chip number line = refused number line text.Neither

-- the chip is read first, then the record, then come the tests
abbrev pub beside_read : Reading Chip → Reading Record → Beside
beside_read (not_read number line) r = refused number line text.Chip
beside_read (accepted c) (not_read number line) = refused number line text.Record
beside_read (accepted c) (accepted r) = unless_failed not_of_chip (first_failed (beside_tests c r)) passed

-- the same of the text of a chip and the text of a record
abbrev pub check_beside : List ℕ → List ℕ → Beside
check_beside chip beside = beside_read (read_chip chip) (read_record beside)
