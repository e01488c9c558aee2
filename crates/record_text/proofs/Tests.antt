-- The tables of a line's tests, in the form of the needs of the functions that make them.
use mathlib.Core.Path.{◌≡◌, refl, ◌∙◌}
use mathlib.Core.Bool.{true, false}
use mathlib.Core.List.{List, [], ◌∷◌}
use Prim.Native.Nat.{ℕ, suc, ◌-◌}
use native.Mathlib.Omega.{arith}
use lib.Dec.{eqb}
use lib.ListN.{length}
use borrow.Author.Tests.{eq-eqb, ne_eqb}
use Rattle.text_grammar.specs.Line.{Value}
use Rattle.text_grammar.specs.Words.{same, is_in, size}
use Rattle.text_grammar.specs.declared.Following.{Following}
use Rattle.text_grammar.specs.Follow.{followed_by, followed_by_none}
use Rattle.text_grammar.specs.Reading.{before, after}
use Rattle.text_grammar.proofs.Entry.{found_or, found_check}
use Rattle.record_text.specs.declared.RecordWord.{RecordWord}
use Rattle.record_text.specs.declared.RecordWord.TheVariants as word
use Rattle.std.specs.Prelude.{Option, Some, None}
use Rattle.record_text.specs.Kind.{Part, spots_of, spot_of, with_spot, read_to, add}
use Rattle.record_text.specs.Tests.{last_of, record_following, turn_fault}

-- ---- the next macro

module _ (n m : ℕ) where
  pub out_of_turn : (m ≡ 0 → ⊥) → (m - 1 ≡ n → ⊥) → 8 ≡ turn_fault n m
  unfolding turn_fault
  out_of_turn z h = rw (ne_eqb m (suc n) (λ e. h (omega arith)))

pub at_adds : (s : Part) (vs : List Value) → add s word.At vs ≡ found_or (turn_fault (length (spots_of s.result)) (size vs 0)) (read_to word.At (with_spot s.result (spot_of vs)))
unfolding turn_fault
at_adds s vs = found_check (eqb (size vs 0) (suc (length (spots_of s.result)))) 7 0 (read_to word.At (with_spot s.result (spot_of vs))) _ refl
