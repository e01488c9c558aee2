-- The tests of a line before its fields, as tables: an entry for each word in their order, and more up to eight; its last test; and what the
-- program's values mean.
use Rattle.std.specs.Prelude.{ℕ, suc, Bool, true, List, eqb, replicate, Option, Some, None}
use Rattle.text_grammar.specs.declared.Following.{Following}
use Rattle.text_grammar.specs.Follow.{table_of, places_of}
use Rattle.text_grammar.specs.Reading.{Last, before, after, is_last}
use Rattle.text_grammar.specs.Steps.{need}
use Rattle.record_text.specs.declared.RecordWord.{RecordWord}
use Rattle.record_text.specs.declared.RecordWord.TheVariants as word
use Rattle.record_text.specs.Words.{record_words}
use Rattle.record_text.specs.Kind.{followers, room}

-- the word of the last line
abbrev pub last_of : Option RecordWord → Last RecordWord
last_of None = before
last_of (Some w) = after w

-- what a reader knows of the next line: place; a record has no nets; `done` has been read
unfoldable pub record_following : Last RecordWord → Following
record_following l = record {
  placed = places_of record_words (followers l);
  pinned = replicate 8 true;
  over = is_last record_words l word.Done;
}

-- count: there is room for one more of the word's kind, beside n macros
unfoldable pub record_rooms : ℕ → List Bool
record_rooms n = table_of record_words true (λ w. room n w)

-- macro m after n others: out of turn 8
unfoldable pub turn_fault : ℕ → ℕ → ℕ
turn_fault n m = need (eqb m (suc n)) 8 0
