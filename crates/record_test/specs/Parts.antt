-- What the private functions that test a record promise.
use Rattle.std.specs.Prelude.{ℕ, Bool, ◌&&◌, List, ltb, get_or, pos}
use Rattle.model.specs.declared.Spot.{Spot}
use Rattle.model.specs.Meaning.{Record, blank_spot}
use Rattle.model.specs.Limits.{is_within, placed_corner, most_macs}
use Rattle.text_grammar.specs.Line.{lines}
use Rattle.text_grammar.specs.Reading.{Reading, read_lines, part_read}
use Rattle.text_grammar.specs.Steps.{need}
use Rattle.record_text.specs.Kind.{start, record_kind, Part}
use Rattle.record_text.specs.Text.{record_text}

-- x and y are in their range
abbrev pub in_corners : Spot → Bool
in_corners p = is_within placed_corner (pos p.x) && is_within placed_corner (pos p.y)

-- the number of the first fault of macro i's spot, or 0: count 6, range 4
abbrev pub spot_fault : List Spot → ℕ → ℕ
spot_fault s i =
    need (ltb i most_macs) 6
    (need (in_corners (get_or s i blank_spot)) 4 0)

-- what the lines of a record's text are read as, whatever its length
unfoldable pub lines_read : Record → Reading Record
lines_read r = part_read (λ (s : Part). s.result) (read_lines record_kind start 1 (lines (record_text r)))
