-- The encoding of each case of an answer, in the form of the needs.
use Rattle.std.specs.Prelude.{Ok, Err, Result}
use Prim.Native.Nat.{ℕ}
use mathlib.Core.Path.{◌≡◌, sym, ap, ◌∙◌}
use mathlib.Core.Bool.{Bool, true, false}
use Rattle.model.specs.declared.Refusal.{Refusal}
use Rattle.model.specs.declared.Chip.{Chip as HeldChip}
use Rattle.model.specs.declared.Record.{Record as HeldRecord}
use Rattle.text_grammar.specs.Writing.{answer_of}
use Rattle.chip_read.specs.Answer.{meant_chip}
use Rattle.record_read.specs.Answer.{meant_record}
use Rattle.measure_held.specs.declared.Measurement.{Measurement}
use Rattle.measure_held.specs.Answer.{measured as measured_at, measured_as}
use Rattle.host_codes.specs.declared.Code.{Code}
use Rattle.host_codes.specs.Code.{Outcome, granted, denied, refused, code, of_reading, of_answer, of_measure}

-- an answer of any type that is encoded by f: the code of the case that it is
pub coded : {A : Type 0} (f : A → Outcome) (a b : A) → a ≡ b → (r : Code) → r ≡ code (f b) → r ≡ code (f a)
coded f a b e r q = q ∙ ap (λ t. code (f t)) (sym e)

module _ (a : Result HeldChip Refusal) (r : Code) where
  pub chip_yes : (c : HeldChip) → a ≡ Ok c → r ≡ code (granted 0) → r ≡ code (of_reading (meant_chip a))
  chip_yes c e q = coded (λ (t : Result HeldChip Refusal). of_reading (meant_chip t)) a (Ok c) e r q

  pub chip_refused : (f : Refusal) → a ≡ Err f → r ≡ code (refused f.no f.line) → r ≡ code (of_reading (meant_chip a))
  chip_refused f e q = coded (λ (t : Result HeldChip Refusal). of_reading (meant_chip t)) a (Err f) e r q

module _ (a : Result HeldRecord Refusal) (r : Code) where
  pub record_yes : (h : HeldRecord) → a ≡ Ok h → r ≡ code (granted 0) → r ≡ code (of_reading (meant_record a))
  record_yes h e q = coded (λ (t : Result HeldRecord Refusal). of_reading (meant_record t)) a (Ok h) e r q

  pub record_refused : (f : Refusal) → a ≡ Err f → r ≡ code (refused f.no f.line) → r ≡ code (of_reading (meant_record a))
  record_refused f e q = coded (λ (t : Result HeldRecord Refusal). of_reading (meant_record t)) a (Err f) e r q

module _ (a : Result ℕ Refusal) (r : Code) where
  pub answer_text : (n : ℕ) → a ≡ Ok n → r ≡ code (granted n) → r ≡ code (of_answer (answer_of a))
  answer_text n e q = coded (λ (t : Result ℕ Refusal). of_answer (answer_of t)) a (Ok n) e r q

  pub answer_refused : (f : Refusal) → a ≡ Err f → r ≡ code (refused f.no f.line) → r ≡ code (of_answer (answer_of a))
  answer_refused f e q = coded (λ (t : Result ℕ Refusal). of_answer (answer_of t)) a (Err f) e r q

module _ (a : Result Measurement Refusal) (r : Code) where
  pub measure_measured : (m : Measurement) → a ≡ Ok m → r ≡ code (of_measure (measured_at m.legal m.length)) → r ≡ code (of_measure (measured_as a))
  measure_measured m e q = coded (λ (t : Result Measurement Refusal). of_measure (measured_as t)) a (Ok m) e r q

  pub measure_refused : (f : Refusal) → a ≡ Err f → r ≡ code (refused f.no f.line) → r ≡ code (of_measure (measured_as a))
  measure_refused f e q = coded (λ (t : Result Measurement Refusal). of_measure (measured_as t)) a (Err f) e r q
