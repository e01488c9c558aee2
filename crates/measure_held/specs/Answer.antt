-- What measuring answers (document 01, "Legal, and how long").
use Rattle.std.specs.Prelude.{ℕ, Bool, Result, Ok, Err}
use Rattle.model.specs.declared.Refusal.{Refusal}
use Rattle.measure_held.specs.declared.Measurement.{Measurement}

-- a refusal's number and line, or legal or not and the wirelength
pub data Measure : Type 0 where
  refused : ℕ → ℕ → Measure
  measured : Bool → ℕ → Measure

-- document 01's number and values for each case of the program's answer
abbrev pub measured_as : Result Measurement Refusal → Measure
measured_as (Ok m) = measured m.legal m.length
measured_as (Err f) = refused f.no f.line
