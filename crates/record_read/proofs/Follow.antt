-- The words after which an `at` line may stand.
use mathlib.Core.Path.{◌≡◌, refl}
use mathlib.Core.Bool.{◌||◌}
use Rattle.text_grammar.specs.Words.{same, is_in}
use Rattle.text_grammar.specs.Reading.{Last, before, after, is_last}
use Rattle.record_text.specs.declared.RecordWord.{RecordWord}
use Rattle.record_text.specs.declared.RecordWord.TheVariants as word
use Rattle.record_text.specs.Words.{record_words}
use Rattle.record_text.specs.Kind.{followers}

pub after_least : (l : Last RecordWord) → is_in record_words word.At (followers l) ≡ (is_last record_words l word.Least || is_last record_words l word.At)
unfolding is_in same
after_least before = refl
after_least (after word.Least) = refl
after_least (after word.None) = refl
after_least (after word.At) = refl
after_least (after word.Done) = refl
