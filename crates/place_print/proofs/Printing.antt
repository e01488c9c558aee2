-- What is printed for a text is what is shown for the answer of `place_text`: in the form of the need.
use Rattle.std.specs.Prelude.{Result}
use Rattle.model.specs.declared.Refusal.{Refusal}
use Prim.Native.Nat.{ℕ, ◌≤◌}
use mathlib.Core.Path.{◌≡◌}
use mathlib.Core.List.{List}
use native.Mathlib.Omega.{arith}
use Rattle.text_grammar.specs.Reading.{refused}
use Rattle.text_grammar.specs.Writing.{answer_of}
use Rattle.chip_text.specs.Text.{read_chip}
use Rattle.chip_text.proofs.Numbers.{chip_number, chip_line}
use Rattle.text_refusal.specs.Refusal.{shown}
use Rattle.text_refusal.proofs.Refusals.{read_printed}
use Rattle.search.specs.Place.{record_for, place_text}
use Rattle.place_print.specs.Printed.{print_text}

-- the refusal of a chip's text is not 15, and its line is short
pub not_fifteen : (text : List ℕ) (n l : ℕ) → read_chip text ≡ refused n l → n ≡ 15 → ⊥
not_fifteen text n l e z = let s = (chip_number text n l e).within in omega arith

pub chip_refusal : (text : List ℕ) (n l : ℕ) → read_chip text ≡ refused n l → (n ≤ 99) × (l ≤ 16385)
chip_refusal text n l e = let k = (chip_number text n l e).within in (omega arith, chip_line text n l e)

pub text_printed : (text b m : List ℕ) (a : Result ℕ Refusal) → record { answer = answer_of a; buffer = m } ≡ place_text text b → (w : Result ℕ Refusal) (z : List ℕ) → record { answer = answer_of w; buffer = z } ≡ shown (answer_of a) m → record { answer = answer_of w; buffer = z } ≡ print_text text b
text_printed text b m a e w z p = read_printed record_for (read_chip text) (not_fifteen text) b m a e w z p
