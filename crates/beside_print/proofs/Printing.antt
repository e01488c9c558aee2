-- What is written for an answer: in the form of the needs.
use Prim.Native.Nat.{ℕ, ◌≤◌, ◌<◌}
use mathlib.Core.Path.{◌≡◌, refl, sym, ap, ◌∙◌}
use mathlib.Core.List.{List}
use lib.Dec.{leb}
use lib.ListN.{length}
use lib.Seq.{sets}
use native.Mathlib.Omega.{arith}
use Rattle.num_text.specs.Held.{Wrote}
use Rattle.model.specs.declared.Refusal.{Refusal}
use Rattle.text_grammar.specs.Writing.{Written, wrote, refuse, if_room}
use Rattle.text_grammar.proofs.Fit.{too_short, all_fits}
use Rattle.text_refusal.specs.Refusal.{refusal_line}
use Rattle.std.specs.Prelude.{Result, Ok, Err}
use Rattle.beside_check.specs.declared.BesideRefusal.{BesideRefusal}
use Rattle.beside_check.specs.Beside.{Beside, beside_as, check_beside}
use Rattle.beside_print.specs.Printed.{passed_line, beside_line, print_beside}

-- ---- the line of a record that passes

module _ (b : List ℕ) where
  told : Wrote b (sets b 0 passed_line) passed_line 0 7
  told = record { place = refl; bytes = refl }

  pub passed_too_long : length b < 7 → refuse 15 0 b ≡ if_room (leb (length passed_line) (length b)) passed_line b
  passed_too_long = too_short passed_line b (sets b 0 passed_line) b 7 (omega arith) told

  pub passed_fits : (a : List ℕ) (k : ℕ) → 7 ≤ length b → Wrote b a passed_line 0 k → record { answer = wrote k; buffer = a } ≡ if_room (leb (length passed_line) (length b)) passed_line b
  passed_fits = all_fits passed_line b (sets b 0 passed_line) b 7 (omega arith) told

-- ---- the answer

-- the line of an answer in a buffer
abbrev line_in : List ℕ → Beside → Written
line_in b x = if_room (leb (length (beside_line x)) (length b)) (beside_line x) b

module _ (chip beside b : List ℕ) (a : Result (Unit {0}) BesideRefusal) (e : beside_as a ≡ check_beside chip beside) (w : Written) where
  pub passed_printed : a ≡ Ok tt → w ≡ if_room (leb (length passed_line) (length b)) passed_line b → w ≡ print_beside chip beside b
  passed_printed q h = h ∙ ap (λ (x : Result (Unit {0}) BesideRefusal). line_in b (beside_as x)) (sym q) ∙ ap (line_in b) e

  pub refusal_printed : (f : BesideRefusal) → a ≡ Err f → w ≡ if_room (leb (length (refusal_line f.refusal.no f.refusal.line)) (length b)) (refusal_line f.refusal.no f.refusal.line) b → w ≡ print_beside chip beside b
  refusal_printed f q h = h ∙ ap (λ (x : Result (Unit {0}) BesideRefusal). line_in b (beside_as x)) (sym q) ∙ ap (line_in b) e
