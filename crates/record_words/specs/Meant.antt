-- The tables of the walk: all words in their order, then blank ones up to eight.
use Rattle.std.specs.Prelude.{ℕ, List, [], map}
use Rattle.model.specs.Held.{filled}
use Rattle.text_grammar.specs.Reading.{Last}
use Rattle.text_line.specs.declared.Spelling.{Spelling}
use Rattle.text_line.specs.Held.{spelled}
use Rattle.text_walk.specs.declared.Tests.{Tests}
use Rattle.record_text.specs.declared.RecordWord.{RecordWord}
use Rattle.record_text.specs.Words.{spell, record_words}
use Rattle.record_text.specs.Tests.{record_following, record_rooms}

-- the spellings
abbrev pub record_spellings : List Spelling
record_spellings = filled 8 (spelled []) (map (λ w. spelled (spell w)) record_words.all)

-- the tests before the fields
abbrev pub record_tests : Last RecordWord → ℕ → Tests
record_tests l n = record { placed = (record_following l).placed; room = record_rooms n; pinned = (record_following l).pinned }
