-- The tests of a line before its fields, as tables: an entry for each word in their order, and more up to eight; and what the program's values mean.
use Rattle.std.specs.Prelude.{Bool, true, List, Option, Some, None}
use Rattle.text_grammar.specs.declared.Following.{Following}
use Rattle.text_grammar.specs.Follow.{table_of, places_of}
use Rattle.text_grammar.specs.Reading.{Last, before, after, is_last}
use Rattle.chip_text.specs.declared.ChipWord.{ChipWord}
use Rattle.chip_text.specs.declared.ChipWord.TheVariants as word
use Rattle.chip_text.specs.declared.Counts.{Counts as HeldCounts}
use Rattle.chip_text.specs.Words.{chip_words}
use Rattle.chip_text.specs.Kind.{Counts, counts, followers, room, pinned}

-- the word of the last line
abbrev pub last_of : Option ChipWord → Last ChipWord
last_of None = before
last_of (Some w) = after w

-- how many things have been read
abbrev pub counts_in : HeldCounts → Counts
counts_in h = record { fixes = h.fixes; macs = h.macs; nets = h.nets; pins = h.pins }

-- what a reader knows of the next line: place; the net above has a pin; `end` has been read
unfoldable pub chip_following : Last ChipWord → Following
chip_following l = record {
  placed = places_of chip_words (followers l);
  pinned = table_of chip_words true (λ w. pinned l w);
  over = is_last chip_words l word.End;
}

-- count: there is room for one more of the word's kind
unfoldable pub chip_rooms : Counts → List Bool
chip_rooms c = table_of chip_words true (λ w. room counts c w)
