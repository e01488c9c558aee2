-- The encoding of each case of a fit's answer, in the form of the needs.
use Rattle.std.specs.Prelude.{Result, Ok, Err, Option, Some, None}
use mathlib.Core.Path.{◌≡◌}
use Rattle.model.specs.declared.Refusal.{Refusal}
use Rattle.fit.specs.declared.Fitted.{Fitted}
use Rattle.host_codes.specs.declared.Code.{Code}
use Rattle.host_codes.specs.Code.{granted, denied, refused, code}
use Rattle.host_codes.proofs.Coding.{coded}
use Rattle.host_fit.specs.FitText.{of_outcome}

module _ (o : Result (Option Fitted) Refusal) (r : Code) where
  pub fit_placed : (f : Fitted) → o ≡ Ok (Some f) → r ≡ code (granted f.length) → r ≡ code (of_outcome o)
  fit_placed f e q = coded of_outcome o (Ok (Some f)) e r q

  pub fit_none : o ≡ Ok None → r ≡ code (denied 0) → r ≡ code (of_outcome o)
  fit_none e q = coded of_outcome o (Ok None) e r q

  pub fit_refused : (f : Refusal) → o ≡ Err f → r ≡ code (refused f.no f.line) → r ≡ code (of_outcome o)
  fit_refused f e q = coded of_outcome o (Err f) e r q
