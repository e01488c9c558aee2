-- The words of records are as the reader wants them.
use mathlib.Core.Path.{◌≡◌, refl}
use mathlib.Core.Bool.{true}
use Rattle.num_text.specs.Number.{all_of}
use Rattle.record_text.specs.declared.RecordWord.{RecordWord}
use Rattle.record_text.specs.declared.RecordWord.TheVariants as word
use Rattle.model.specs.Step.{next}
use Rattle.text_grammar.specs.Words.{same, word_in}
use Rattle.text_grammar.proofs.FieldsText.{is_mark, clean, is_form}
use Rattle.text_grammar.proofs.Words.{Told, is_told, told_by}
use Rattle.record_text.specs.Words.{spell, record_words}

fine : (w : RecordWord) → is_told record_words w ≡ true
unfolding all_of is_mark clean is_form
fine word.Least = refl
fine word.None = refl
fine word.At = refl
fine word.Done = refl

found : (w : RecordWord) → word_in record_words record_words.all (spell w) ≡ next w
unfolding word_in same
found word.Least = refl
found word.None = refl
found word.At = refl
found word.Done = refl

pub words_told : Told record_words
words_told = told_by record_words fine found
