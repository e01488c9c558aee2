-- The words of chips by their cases, and that their layouts are their forms.
use mathlib.Core.Path.{◌≡◌, refl, ◌∙◌}
use mathlib.Core.Bool.{true}
use mathlib.Core.List.{List, [], ◌∷◌}
use Prim.Native.Nat.{ℕ}
use Rattle.text_line.specs.declared.Rule.{Rule}
use Rattle.text_line.specs.declared.Layout.{Layout}
use Rattle.text_line.specs.Held.{spelled}
use Rattle.text_line.specs.Layout.{form_at, is_layout, form_of, short_rule, laid_out, layout_for, values_at, values_in}
use Rattle.text_line.proofs.Layouts.{Laying}
use Rattle.chip_text.specs.declared.ChipWord.{ChipWord}
use Rattle.chip_text.specs.declared.ChipWord.TheVariants as word
use Rattle.chip_text.specs.Words.{spell, form}

-- ---- a word that is x

-- ---- the layout of a word is its form, within the limits

form_of_law : (w : ChipWord) → form_of (layout_for (form w)).rules ≡ form w
unfolding form_at
form_of_law word.Die = refl
form_of_law word.Fix = refl
form_of_law word.Mac = refl
form_of_law word.Net = refl
form_of_law word.Pin = refl
form_of_law word.End = refl

layout_of : (w : ChipWord) → is_layout (layout_for (form w)).rules ≡ true
unfolding is_layout
layout_of word.Die = refl
layout_of word.Fix = refl
layout_of word.Mac = refl
layout_of word.Net = refl
layout_of word.Pin = refl
layout_of word.End = refl

pub laying : (w : ChipWord) → Laying (form w)
laying w = record { means = form_of_law w; fine = layout_of w }

-- no field is a string: what the numbers mean does not depend on the text that they were read from
pub no_strings : (w : ChipWord) (s vs : List ℕ) → values_in (form w) s vs ≡ values_in (form w) [] vs
unfolding values_at
no_strings word.Die s vs = refl
no_strings word.Fix s vs = refl
no_strings word.Mac s vs = refl
no_strings word.Net s vs = refl
no_strings word.Pin s vs = refl
no_strings word.End s vs = refl
