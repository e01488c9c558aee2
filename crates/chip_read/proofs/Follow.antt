-- The words after which a pin may stand.
use mathlib.Core.Path.{◌≡◌, refl}
use mathlib.Core.Bool.{◌||◌}
use Rattle.text_grammar.specs.Words.{same, is_in}
use Rattle.text_grammar.specs.Reading.{Last, before, after, is_last}
use Rattle.chip_text.specs.declared.ChipWord.{ChipWord}
use Rattle.chip_text.specs.declared.ChipWord.TheVariants as word
use Rattle.chip_text.specs.Words.{chip_words}
use Rattle.chip_text.specs.Kind.{followers}

pub after_net : (l : Last ChipWord) → is_in chip_words word.Pin (followers l) ≡ (is_last chip_words l word.Net || is_last chip_words l word.Pin)
unfolding is_in same
after_net before = refl
after_net (after word.Die) = refl
after_net (after word.Fix) = refl
after_net (after word.Mac) = refl
after_net (after word.Net) = refl
after_net (after word.Pin) = refl
after_net (after word.End) = refl
