-- The refusal numbers of reading a chip are 1 to 10, and the line of a refusal is at most 16,385, whatever the text: `chip_number`, `chip_line`.
use Prim.{tt}
use Prim.Native.Nat.{ℕ, suc, ◌≤◌}
use mathlib.Core.Path.{◌≡◌, refl}
use mathlib.Core.List.{List, map}
use lib.Dec.{leb}
use lib.ListN.{length}
use Rattle.model.specs.Limits.{most_bytes}
use Rattle.geometry.specs.Box.{box_of, in_die, clear_of}
use Rattle.text_grammar.specs.Line.{Value}
use Rattle.text_grammar.specs.Words.{size}
use Rattle.text_grammar.specs.Reading.{refused}
use Rattle.text_grammar.proofs.Numbers.{Numbered, in_table, OfStep, check_numbered, read_number, read_line}
use Rattle.chip_text.specs.declared.ChipWord.{ChipWord}
use Rattle.chip_text.specs.declared.ChipWord.TheVariants as word
use Rattle.chip_text.specs.Kind.{Part, start, fix_of, pin_of, with_fix, with_pin, read_to, add, chip_kind}
use Rattle.chip_text.specs.Text.{read_chip}

adds : (s : Part) (w : ChipWord) (vs : List Value) → OfStep (add s w vs)
unfolding OfStep
adds s word.Die vs = tt
adds s word.Fix vs =
    check_numbered (in_die s.chip.die (box_of (fix_of vs))) _ (in_table 9 refl)
    (check_numbered (clear_of 0 (box_of (fix_of vs)) (map box_of s.chip.fixes)) (read_to word.Fix (with_fix s.chip (fix_of vs))) (in_table 10 refl) tt)
adds s word.Mac vs = tt
adds s word.Net vs = tt
adds s word.Pin vs = check_numbered (leb (size vs 0) (length s.chip.macs)) (read_to word.Pin (with_pin s.chip (pin_of vs))) (in_table 8 refl) tt
adds s word.End vs = tt

pub chip_number : (t : List ℕ) (n l : ℕ) → read_chip t ≡ refused n l → Numbered 10 n
unfolding read_chip
chip_number = read_number chip_kind adds start (λ (s : Part). s.chip)

pub chip_line : (t : List ℕ) (n l : ℕ) → read_chip t ≡ refused n l → l ≤ suc most_bytes
unfolding read_chip
chip_line = read_line chip_kind start (λ (s : Part). s.chip)
