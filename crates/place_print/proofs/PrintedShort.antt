-- What is printed has at most 192 bytes, whatever the text: `printed_short`. So it fits into a buffer of that length, and 15 is never told: `print_fits`.
-- The first 16,385 bytes of a text are enough: `printed_start`.
use Prim.Native.Nat.{ℕ, ◌≤◌, ◌<◌}
use mathlib.Core.Path.{◌≡◌, ap}
use mathlib.Core.Bool.{Bool}
use mathlib.Core.List.{List, ◌++◌}
use native.Mathlib.Omega.{arith}
use lib.ListN.{length, take, drop}
use borrow.Author.Tests.{le-leb}
use Rattle.model.specs.Meaning.{Chip}
use Rattle.text_grammar.specs.Writing.{wrote, if_room}
use Rattle.chip_text.specs.Text.{read_chip}
use Rattle.chip_text.proofs.Accepted.{accepted_valid}
use Rattle.chip_text.proofs.ReadText.{read_start}
use Rattle.text_refusal.specs.Refusal.{printed_for}
use Rattle.text_refusal.proofs.Refusals.{printed_for_short}
use Rattle.place_print.specs.Printed.{printed, print_text}
use Rattle.place_print.proofs.Printing.{chip_refusal}
use Rattle.record_text.proofs.Short.{record_short}
use Rattle.record_text.specs.Text.{record_text}
use Rattle.placement.specs.Least.{chip_record}
use Rattle.chip_text.specs.Valid.{Valid}
use Rattle.search.specs.Place.{record_for}
use Rattle.search.proofs.RecordsRead.{chip_record_read}

pub chip_record_short : (c : Chip) → Valid c → length (record_text (chip_record c)) ≤ 192
chip_record_short c v = record_short (record_text (chip_record c)) (chip_record c) (chip_record_read c v)

pub printed_short : (text : List ℕ) → length (printed text) ≤ 192
printed_short text = printed_for_short record_for (read_chip text) 192 (omega arith) (λ c e. chip_record_short c (accepted_valid text c e)) (chip_refusal text)

pub print_fits : (text out : List ℕ) → 192 ≤ length out → print_text text out ≡ record { answer = wrote (length (printed text)); buffer = printed text ++ drop (length (printed text)) out }
print_fits text out h = let s = printed_short text in ap (λ (b : Bool). if_room b (printed text) out) (le-leb (length (printed text)) (length out) (omega arith))

pub printed_start : (text : List ℕ) (k : ℕ) → 16384 < k → printed (take k text) ≡ printed text
printed_start text k h = ap (printed_for record_for) (read_start text k h)
