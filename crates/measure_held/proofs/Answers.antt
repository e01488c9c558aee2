-- What is answered, in the form of the needs of `measured` and `length_in`.
use mathlib.Core.Path.{◌≡◌}
use mathlib.Core.Bool.{Bool}
use mathlib.Core.List.{List}
use Prim.Native.Nat.{ℕ}
use Rattle.model.specs.declared.Chip.{Chip}
use Rattle.model.specs.declared.Refusal.{Refusal}
use Rattle.model.specs.declared.Spot.{Spot}
use Rattle.legal.specs.Turn.{legal_held}
use Rattle.std.specs.Prelude.{Result, Ok, Err}
use Rattle.measure_held.specs.declared.Measurement.{Measurement}
use Rattle.measure_held.specs.Answer.{measured, measured_as}
use Rattle.measure_held.specs.Held.{length_held, length_in}

pub its_measure : (c : Chip) (s : List Spot) (a : Bool) (wl : ℕ) → a ≡ legal_held c s → wl ≡ length_held c s → measured a wl ≡ measured (legal_held c s) (length_held c s)
its_measure c s a wl g k = rw (g, k)

module _ (a : Result Measurement Refusal) where
  pub length_measured : (m : Measurement) → a ≡ Ok m → m.length ≡ length_in (measured_as a)
  length_measured m q = rw q

  pub length_refused : (f : Refusal) → a ≡ Err f → 0 ≡ length_in (measured_as a)
  length_refused f q = rw q
