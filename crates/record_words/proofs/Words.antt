-- The words of records by their cases, and that their layouts are their forms.
use mathlib.Core.Path.{◌≡◌, refl}
use mathlib.Core.Bool.{true}
use mathlib.Core.List.{List, []}
use Prim.Native.Nat.{ℕ}
use Rattle.text_line.specs.declared.Layout.{Layout}
use Rattle.text_line.specs.Held.{spelled}
use Rattle.text_line.specs.Layout.{form_at, is_layout, form_of, layout_for, values_at, values_in}
use Rattle.text_line.proofs.Layouts.{Laying}
use Rattle.record_text.specs.declared.RecordWord.{RecordWord}
use Rattle.record_text.specs.declared.RecordWord.TheVariants as word
use Rattle.record_text.specs.Words.{spell, form}

-- ---- a word that is x

-- ---- the layout of a word is its form, within the limits

form_of_law : (w : RecordWord) → form_of (layout_for (form w)).rules ≡ form w
unfolding form_at
form_of_law word.Least = refl
form_of_law word.None = refl
form_of_law word.At = refl
form_of_law word.Done = refl

layout_of : (w : RecordWord) → is_layout (layout_for (form w)).rules ≡ true
unfolding is_layout
layout_of word.Least = refl
layout_of word.None = refl
layout_of word.At = refl
layout_of word.Done = refl

pub laying : (w : RecordWord) → Laying (form w)
laying w = record { means = form_of_law w; fine = layout_of w }

-- no field is a string: what the numbers mean does not depend on the text that they were read from
pub no_strings : (w : RecordWord) (s vs : List ℕ) → values_in (form w) s vs ≡ values_in (form w) [] vs
unfolding values_at
no_strings word.Least s vs = refl
no_strings word.None s vs = refl
no_strings word.At s vs = refl
no_strings word.Done s vs = refl
