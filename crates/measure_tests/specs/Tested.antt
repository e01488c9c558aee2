-- What the test of positions answers: the refusal of reading, or of the first test that fails, or that all are passed.
use Rattle.model.specs.declared.Refusal.{Refusal}
use Rattle.std.specs.Prelude.{ℕ, Ok, Err, Result}
use Rattle.refusals.specs.Tests.{unless_failed}
use Rattle.text_grammar.specs.Reading.{Reading, accepted, refused}

abbrev pub refused_as : ℕ → ℕ → Result (Unit {0}) Refusal
refused_as number line = Err (record { no = number; line = line })

abbrev pub tested_by : {A : Type 0} → Reading A → ℕ → Result (Unit {0}) Refusal
tested_by (accepted c) first = unless_failed refused_as first (Ok tt)
tested_by (refused number line) first = refused_as number line
