-- What is printed has at most 25 bytes, whatever the texts: `beside_short`. So it fits into a buffer of that length, and 15 is never told. The first 16,385
-- bytes of each text are enough: `beside_start`.
use Prim.Native.Nat.{ℕ, ◌≤◌, ◌<◌}
use mathlib.Core.Path.{◌≡◌, refl}
use mathlib.Core.Logic.{◌⊎◌, inl, inr}
use mathlib.Core.List.{List}
use native.Mathlib.Omega.{arith}
use lib.ListN.{length, take}
use Rattle.text_grammar.proofs.Numbers.{Numbered}
use Rattle.chip_text.proofs.ReadText.{read_start as chip_start}
use Rattle.record_text.proofs.ReadText.{read_start as record_start}
use Rattle.text_refusal.proofs.Refusals.{refusal_short}
use Rattle.beside_check.specs.Beside.{Beside, passed, refused, check_beside}
use Rattle.beside_check.proofs.Numbers.{beside_number, beside_line_law}
use Rattle.beside_print.specs.Printed.{beside_line, printed_beside}

pub beside_short : (chip beside : List ℕ) → length (printed_beside chip beside) ≤ 25
beside_short chip beside = by (check_beside chip beside) refl
  where
    few : (n : ℕ) → Numbered 10 n ⊎ ((n ≡ 13) ⊎ ((n ≡ 16) ⊎ (n ≡ 17))) → n ≤ 99
    few n (inl h) = let w = h.within in omega arith
    few n (inr (inl h)) = omega arith
    few n (inr (inr (inl h))) = omega arith
    few n (inr (inr (inr h))) = omega arith

    by : (b : Beside) → check_beside chip beside ≡ b → length (beside_line b) ≤ 25
    by passed e = omega arith
    by (refused n l t) e = refusal_short n l (few n (beside_number chip beside n l t e)) (beside_line_law chip beside n l t e)

pub beside_start : (chip beside : List ℕ) (j k : ℕ) → 16384 < j → 16384 < k → printed_beside (take j chip) (take k beside) ≡ printed_beside chip beside
beside_start chip beside j k g h = rw (chip_start chip j g, record_start beside k h)
