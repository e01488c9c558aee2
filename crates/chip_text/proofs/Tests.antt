-- The tables of a line's tests, in the form of the needs of the functions that make them.
use mathlib.Core.Path.{◌≡◌, refl, ◌∙◌}
use mathlib.Core.Bool.{true, false}
use mathlib.Core.List.{[], ◌∷◌}
use Rattle.text_grammar.specs.Words.{same, is_in}
use Rattle.text_grammar.specs.declared.Following.{Following}
use Rattle.text_grammar.specs.Follow.{followed_by, followed_by_none}
use Rattle.text_grammar.specs.Reading.{before, after}
use Rattle.chip_text.specs.declared.ChipWord.{ChipWord}
use Rattle.chip_text.specs.declared.ChipWord.TheVariants as word
use Rattle.std.specs.Prelude.{Option, Some, None}
use Rattle.chip_text.specs.Tests.{last_of, chip_following}

-- the row r is a, and so what is known after the last word
module _ (l : Option ChipWord) (r a : Following) (q : r ≡ a) where
  pub first_row : l ≡ None → a ≡ chip_following before → r ≡ chip_following (last_of l)
  first_row e k = q ∙ k ∙ rw e

  -- after the word v, which is x
  pub next_row : (v : ChipWord) → l ≡ Some v → (x : ChipWord) → v ≡ x → a ≡ chip_following (after x) → r ≡ chip_following (last_of l)
  next_row v e x p k = q ∙ k ∙ rw (e, p)

pub before_first : followed_by (true ∷ false ∷ false ∷ false ∷ false ∷ false ∷ false ∷ false ∷ []) ≡ chip_following before
unfolding chip_following is_in same
before_first = refl

pub after_die : followed_by (false ∷ true ∷ true ∷ true ∷ false ∷ true ∷ false ∷ false ∷ []) ≡ chip_following (after word.Die)
unfolding chip_following is_in same
after_die = refl

pub after_fix : followed_by (false ∷ true ∷ true ∷ true ∷ false ∷ true ∷ false ∷ false ∷ []) ≡ chip_following (after word.Fix)
unfolding chip_following is_in same
after_fix = refl

pub after_mac : followed_by (false ∷ false ∷ true ∷ true ∷ false ∷ true ∷ false ∷ false ∷ []) ≡ chip_following (after word.Mac)
unfolding chip_following is_in same
after_mac = refl

pub after_net : record { placed = false ∷ false ∷ false ∷ true ∷ true ∷ true ∷ false ∷ false ∷ []; pinned = false ∷ false ∷ false ∷ false ∷ true ∷ false ∷ true ∷ true ∷ []; over = false } ≡ chip_following (after word.Net)
unfolding chip_following is_in same
after_net = refl

pub after_pin : followed_by (false ∷ false ∷ false ∷ true ∷ true ∷ true ∷ false ∷ false ∷ []) ≡ chip_following (after word.Pin)
unfolding chip_following is_in same
after_pin = refl

pub after_end : followed_by_none ≡ chip_following (after word.End)
unfolding chip_following is_in same
after_end = refl
