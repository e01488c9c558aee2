-- Measuring a placement (document 01, "Legal, and how long"): the host hands over the positions as a list, one x,y for each macro, each 0..1,024;
-- the answer is legal or not, and the wirelength, which exists for illegal positions too.
use Rattle.std.specs.Prelude.{List}
use Rattle.model.specs.declared.Spot.{Spot}
use Rattle.model.specs.Meaning.{Chip}
use Rattle.refusals.specs.Tests.{first_failed, unless_failed}
use Rattle.text_grammar.specs.Reading.{Reading, accepted, refused as not_read}
use Rattle.chip_text.specs.Text.{read_chip, chip_text}
use Rattle.placement.specs.Integers.{legal_z, wirelength_z, integers}
use Rattle.measure_tests.specs.Positions.{measure_tests}
use Rattle.measure_held.specs.Answer.{Measure, refused, measured}

-- a chip held as a value is tested first as its text would be
abbrev pub after_reading : Reading Chip → Measure → Measure
after_reading (accepted c) more = more
after_reading (not_read n l) more = refused n l

-- then the tests of the positions
unfoldable pub measure_passed : Chip → List Spot → Measure
measure_passed c ps = unless_failed refused (first_failed (measure_tests c ps)) (measured (legal_z c (integers ps)) (wirelength_z c (integers ps)))

abbrev pub measure_positions : Chip → List Spot → Measure
measure_positions c ps = after_reading (read_chip (chip_text c)) (measure_passed c ps)
