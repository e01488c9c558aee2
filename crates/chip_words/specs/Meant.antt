-- The tables of the walk: all words in their order, then blank ones up to eight.
use Rattle.std.specs.Prelude.{List, [], map}
use Rattle.model.specs.Held.{filled}
use Rattle.text_grammar.specs.Reading.{Last}
use Rattle.text_line.specs.declared.Spelling.{Spelling}
use Rattle.text_line.specs.Held.{spelled}
use Rattle.text_walk.specs.declared.Tests.{Tests}
use Rattle.chip_text.specs.declared.ChipWord.{ChipWord}
use Rattle.chip_text.specs.Words.{spell, chip_words}
use Rattle.chip_text.specs.Kind.{Counts}
use Rattle.chip_text.specs.Tests.{chip_following, chip_rooms}

-- the spellings
abbrev pub chip_spellings : List Spelling
chip_spellings = filled 8 (spelled []) (map (λ w. spelled (spell w)) chip_words.all)

-- the tests before the fields
abbrev pub chip_tests : Last ChipWord → Counts → Tests
chip_tests l c = record { placed = (chip_following l).placed; room = chip_rooms c; pinned = (chip_following l).pinned }
