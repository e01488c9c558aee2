-- What measuring answers, over the bytes and numbers that a host hands over: positions are a list of numbers x1, y1, x2, y2 ..
use Rattle.std.specs.Prelude.{ℕ, ◌*◌, List, [], ◌∷◌, eqb, length}
use Rattle.model.specs.declared.Spot.{Spot}
use Rattle.model.specs.Meaning.{Chip}
use Rattle.refusals.specs.Tests.{test, first_failed, unless_failed}
use Rattle.text_grammar.specs.Reading.{Reading, accepted, refused}
use Rattle.chip_text.specs.Text.{read_chip}
use Rattle.measure_held.specs.Answer.{Measure, refused as not_measured}
use Rattle.measure.specs.Measuring.{measure_passed}

-- the corners of a list of numbers; a last x without its y is none
unfoldable pub corners_of : List ℕ → List Spot
corners_of [] = []
corners_of (x ∷ []) = []
corners_of (x ∷ y ∷ l) = record { x = x; y = y } ∷ corners_of l

-- the text is read first; then 13 where there are not two numbers for each macro, then 14
abbrev pub measure_read : Reading Chip → List ℕ → Measure
measure_read (accepted c) l = unless_failed not_measured (first_failed (test 13 (eqb (length l) (2 * length c.macs)) ∷ [])) (measure_passed c (corners_of l))
measure_read (refused number line) l = not_measured number line

abbrev pub measure_text : List ℕ → List ℕ → Measure
measure_text text l = measure_read (read_chip text) l
