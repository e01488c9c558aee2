-- The text of a record with the boxes of a chip's nets, both held as values, without a test. That it is `boxed_text` for a tested chip and a legal placement of it
-- is box_write/proofs/Meaning.antt `text_meant`.
use Rattle.std.specs.Prelude.{ℕ, suc, min, List, [], ◌++◌}
use Rattle.model.specs.declared.Spot.{Spot}
use Rattle.model.specs.declared.Chip.{Chip as HeldChip}
use Rattle.model.specs.declared.Outcome.{Outcome}
use Rattle.model.specs.declared.Outcome.TheVariants as outcome
use Rattle.model.specs.declared.Record.{Record as HeldRecord}
use Rattle.model.specs.Limits.{most_nets}
use Rattle.model.specs.Meaning.{record_of}
use Rattle.text_grammar.specs.Words.{items_text}
use Rattle.text_put.specs.Run.{run}
use Rattle.record_text.specs.Text.{record_text}
use Rattle.measure_nets.specs.Box.{box_of}
use Rattle.measure_held.specs.Held.{box_at}
use Rattle.box_text.specs.Words.{box_words}
use Rattle.box_text.specs.Text.{Item, box_item}

-- the line of net j + 1
abbrev pub box_line : HeldChip → List Spot → ℕ → Item
box_line c ps j = box_item (suc j) (box_of (box_at ps c.nets c.pins j))

-- the lines of a chip's nets
abbrev pub chip_boxes : HeldChip → List Spot → List Item
chip_boxes c ps = run (box_line c ps) 0 (min c.t most_nets)

-- the lines that go with a record
abbrev pub outcome_boxes : HeldChip → Outcome → List Spot → List Item
outcome_boxes c outcome.None ps = []
outcome_boxes c (outcome.Least wl n) ps = chip_boxes c ps

-- the text of a record and those lines
unfoldable pub held_text : HeldChip → HeldRecord → List ℕ
held_text c r = record_text (record_of r) ++ items_text box_words (outcome_boxes c r.outcome r.spots)
