-- The tests of a record beside a chip (document 02, Card 1), both held as values: the count, the legality and the length as they are held, without a test of
-- the chip. That these are the tests of the chip and the record that the values mean, where the chip is an accepted one, is
-- beside_check/proofs/Testing.antt `tests_same`.
use Rattle.std.specs.Prelude.{List, [], ◌∷◌, eqb}
use Rattle.model.specs.declared.Chip.{Chip as HeldChip}
use Rattle.model.specs.declared.Record.{Record as HeldRecord}
use Rattle.model.specs.declared.Outcome.{Outcome}
use Rattle.model.specs.declared.Outcome.TheVariants as outcome
use Rattle.model.specs.declared.Spot.{Spot}
use Rattle.refusals.specs.Tests.{Test, test}
use Rattle.legal.specs.Turn.{legal_held}
use Rattle.measure_held.specs.Held.{length_held}

-- of what a record says, with its corners; `none` has no tests
abbrev pub outcome_tests : HeldChip → Outcome → List Spot → List Test
outcome_tests c outcome.None s = []
outcome_tests c (outcome.Least wl count) s =
    test 13 (eqb count c.n)
    ∷ test 16 (legal_held c s)
    ∷ test 17 (eqb wl (length_held c s))
    ∷ []

-- of a record
abbrev pub held_tests : HeldChip → HeldRecord → List Test
held_tests c r = outcome_tests c r.outcome r.spots
