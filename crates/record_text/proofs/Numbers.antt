-- The refusal numbers of reading a record are 1 to 10, and the line of a refusal is at most 16,385, whatever the text: `record_number`, `record_line`.
use Prim.{tt}
use Prim.Native.Nat.{ℕ, suc, ◌≤◌}
use mathlib.Core.Path.{◌≡◌, refl}
use mathlib.Core.List.{List}
use lib.Dec.{eqb}
use lib.ListN.{length}
use Rattle.model.specs.Limits.{most_bytes}
use Rattle.text_grammar.specs.Line.{Value}
use Rattle.text_grammar.specs.Words.{size}
use Rattle.text_grammar.specs.Reading.{refused}
use Rattle.text_grammar.proofs.Numbers.{Numbered, in_table, OfStep, check_numbered, read_number, read_line}
use Rattle.record_text.specs.declared.RecordWord.{RecordWord}
use Rattle.record_text.specs.declared.RecordWord.TheVariants as word
use Rattle.record_text.specs.Kind.{Part, start, spots_of, spot_of, with_spot, read_to, add, record_kind}
use Rattle.record_text.specs.Text.{read_record}

adds : (s : Part) (w : RecordWord) (vs : List Value) → OfStep (add s w vs)
unfolding OfStep
adds s word.Least vs = tt
adds s word.None vs = tt
adds s word.At vs = check_numbered (eqb (size vs 0) (suc (length (spots_of s.result)))) (read_to word.At (with_spot s.result (spot_of vs))) (in_table 8 refl) tt
adds s word.Done vs = tt

pub record_number : (t : List ℕ) (n l : ℕ) → read_record t ≡ refused n l → Numbered 10 n
unfolding read_record
record_number = read_number record_kind adds start (λ (s : Part). s.result)

pub record_line : (t : List ℕ) (n l : ℕ) → read_record t ≡ refused n l → l ≤ suc most_bytes
unfolding read_record
record_line = read_line record_kind start (λ (s : Part). s.result)
