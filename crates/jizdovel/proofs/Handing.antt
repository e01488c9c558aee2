-- A code handed out as a number and a value, in the form of the needs.
use Rattle.std.specs.Prelude.{Result}
use Rattle.model.specs.declared.Refusal.{Refusal}
use Prim.Native.Nat.{ℕ}
use mathlib.Core.Path.{◌≡◌, ap, ◌∙◌}
use mathlib.Core.List.{List}
use lib.ListN.{length}
use Rattle.model.specs.Meaning.{Chip}
use Rattle.text_grammar.specs.Reading.{Reading}
use Rattle.text_grammar.specs.Writing.{answer_of, Written}
use Rattle.measure_held.specs.Answer.{Measure}
use Rattle.beside_check.specs.Beside.{Beside}
use Rattle.host_codes.specs.declared.Code.{Code}
use Rattle.host_codes.specs.Code.{code, of_reading, of_answer, of_measure, of_fit}
use Rattle.host_beside.specs.declared.BesideCode.{BesideCode}
use Rattle.host_beside.specs.CodeBeside.{beside_code}
use Rattle.host_fit.specs.FitText.{fit_read, SlotsFilled, places_after, FitDone}

abbrev handed : Code → Code
handed r = record { number = r.number; value = r.value }

pub read_handed : {A : Type 0} (a b : Reading A) (r : Code) → a ≡ b → r ≡ code (of_reading a) → handed r ≡ code (of_reading b)
read_handed a b r e q = q ∙ ap (λ (t : Reading _). code (of_reading t)) e

module _ (w : Written) (a : Result ℕ Refusal) (out : List ℕ) (e : record { answer = answer_of a; buffer = out } ≡ w) where
  pub text_handed : (r : Code) → r ≡ code (of_answer (answer_of a)) → handed r ≡ code (of_answer w.answer)
  text_handed r q = q ∙ ap (λ (t : Written). code (of_answer t.answer)) e

  pub text_left : out ≡ w.buffer
  text_left = ap (λ (t : Written). t.buffer) e

pub beside_handed : (x y : Beside) (r : BesideCode) → x ≡ y → r ≡ beside_code x → record { code = handed r.code; text = r.text } ≡ beside_code y
beside_handed x y r e q = q ∙ ap beside_code e

pub measure_handed : (m : Measure) (r : Code) → r ≡ code (of_measure m) → handed r ≡ code (of_measure m)
measure_handed m r q = q

module _ (read : Reading Chip) (s slots slotsAfter places placesThen : List ℕ) (r : Code) (d : FitDone read s r slots slotsAfter places placesThen) where
  pub fit_handed : handed r ≡ code (of_fit (fit_read read s (length slots) (length places)))
  fit_handed = d.answer

  pub fit_filled : SlotsFilled read s (fit_read read s (length slots) (length places)) slots slotsAfter
  fit_filled = d.filled

  pub fit_corners : placesThen ≡ places_after (fit_read read s (length slots) (length places)) places
  fit_corners = d.corners
