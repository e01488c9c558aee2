-- The values of a line, as an array of numbers holds them.
use mathlib.Core.Path.{◌≡◌, refl}
use mathlib.Core.Bool.{true, ◌&&◌}
use mathlib.Core.List.{List, [], ◌∷◌}
use Prim.Native.Nat.{ℕ}
use native.Mathlib.Omega.{arith}
use lib.IntN.{pos}
use lib.ListN.{length, get_or}
use Rattle.model.specs.declared.Spot.{Spot}
use Rattle.record_text.specs.declared.RecordWord.TheVariants as word
use Rattle.record_text.specs.Words.{form, record_words}
use Rattle.record_text.proofs.Told.{words_told}
use Rattle.text_grammar.proofs.FieldsText.{fields_written}
use Rattle.text_grammar.proofs.Values.{passing}
use Rattle.record_read.specs.State.{record_values}
use Rattle.model.specs.Limits.{is_within, placed_corner}
use Rattle.text_grammar.specs.Words.{size}
use Rattle.text_grammar.specs.Steps.{ReadAs}
use Rattle.text_line.specs.Layout.{values_at}
use Rattle.record_text.specs.Kind.{spot_of}

-- the spot that the program makes of the numbers v
abbrev pub held_spot : List ℕ → Spot
held_spot v = record { x = get_or v 1 0; y = get_or v 2 0 }

pub least_values : (v : List ℕ) → size (record_values word.Least v) 0 ≡ get_or v 0 0
unfolding values_at
least_values [] = refl
least_values (a ∷ v) = refl

pub at_values : (v : List ℕ) → (size (record_values word.At v) 0 ≡ get_or v 0 0) × (spot_of (record_values word.At v) ≡ held_spot v)
unfolding values_at
at_values [] = (refl, refl)
at_values (a ∷ []) = (refl, refl)
at_values (a ∷ b ∷ []) = (refl, refl)
at_values (a ∷ b ∷ c ∷ v) = (refl, refl)

-- x and y of an `at` line that was read are in their ranges
pub corners_in : (v : List ℕ) → length v ≡ 4 → ReadAs record_words word.At (record_values word.At v) → (is_within placed_corner (pos (get_or v 1 0)) && is_within placed_corner (pos (get_or v 2 0))) ≡ true
unfolding values_at
corners_in [] e i = absurd (omega arith)
corners_in (a ∷ []) e i = absurd (omega arith)
corners_in (a ∷ b ∷ []) e i = absurd (omega arith)
corners_in (a ∷ b ∷ c ∷ v) e i =
    let vs = record_values word.At (a ∷ b ∷ c ∷ v) in
    let p = passing (form word.At) vs vs (fields_written (form word.At) i.bytes vs (words_told.formed word.At) i.read).passes in
    rw (p.1.0, p.1.1.0)
