-- The words of chip files are as the reader wants them.
use mathlib.Core.Path.{◌≡◌, refl}
use mathlib.Core.Bool.{true}
use Rattle.num_text.specs.Number.{all_of}
use Rattle.model.specs.Step.{next}
use Rattle.text_grammar.specs.Words.{same, word_in}
use Rattle.text_grammar.proofs.FieldsText.{is_mark, clean, is_form}
use Rattle.text_grammar.proofs.Words.{Told, is_told, told_by}
use Rattle.chip_text.specs.declared.ChipWord.{ChipWord}
use Rattle.chip_text.specs.declared.ChipWord.TheVariants as word
use Rattle.chip_text.specs.Words.{spell, chip_words}

fine : (w : ChipWord) → is_told chip_words w ≡ true
unfolding all_of is_mark clean is_form
fine word.Die = refl
fine word.Fix = refl
fine word.Mac = refl
fine word.Net = refl
fine word.Pin = refl
fine word.End = refl

found : (w : ChipWord) → word_in chip_words chip_words.all (spell w) ≡ next w
unfolding word_in same
found word.Die = refl
found word.Fix = refl
found word.Mac = refl
found word.Net = refl
found word.Pin = refl
found word.End = refl

pub words_told : Told chip_words
words_told = told_by chip_words fine found
