-- Codes of a record beside its chip, in the form of the needs.
use Prim.Native.Nat.{ℕ}
use mathlib.Core.Path.{◌≡◌}
use Rattle.std.specs.Prelude.{Result, Ok, Err}
use Rattle.beside_check.specs.declared.BesideRefusal.{BesideRefusal}
use Rattle.beside_check.specs.Beside.{beside_as}
use Rattle.host_codes.specs.declared.Code.{Code}
use Rattle.host_codes.specs.Code.{code, refused}
use Rattle.host_beside.specs.CodeBeside.{text_number, beside_code}

module _ (a : Result (Unit {0}) BesideRefusal) where
  pub passed_coded : a ≡ Ok tt → record { code = record { number = 0; value = 0 }; text = 0 } ≡ beside_code (beside_as a)
  passed_coded q = rw q

  pub refusal_coded : (f : BesideRefusal) → a ≡ Err f → (k : ℕ) → k ≡ text_number f.text → (r : Code) → r ≡ code (refused f.refusal.no f.refusal.line) → record { code = r; text = k } ≡ beside_code (beside_as a)
  refusal_coded f q k e r h = rw (q, e, h)
