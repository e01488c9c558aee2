-- What is measured of a chip held as a value, without a test: numbers count up to a limit. That those of a tested chip do not reach it, and that this
-- is then legality and wirelength, is measure/proofs/IsLegal.antt `legal_told` and HeldNet.antt `length_whole`.
use Rattle.std.specs.Prelude.{ℕ, zero, suc, ◌+◌, min, List, get_or}
use Rattle.model.specs.declared.Spot.{Spot}
use Rattle.model.specs.declared.Chip.{Chip as HeldChip}
use Rattle.model.specs.declared.Net.{Net as HeldNet}
use Rattle.model.specs.declared.Pin.{Pin as HeldPin}
use Rattle.model.specs.Meaning.{blank_net}
use Rattle.model.specs.Limits.{most_nets}
use Rattle.chip_text.specs.Valid.{pins_before}
use Rattle.measure_nets.specs.declared.NetBox.{NetBox as HeldBox}
use Rattle.measure_nets.specs.Held.{net_box_held, box_length_held}
use Rattle.measure_held.specs.Answer.{Measure, refused, measured}

-- the box of net j
abbrev pub box_at : List Spot → List HeldNet → List HeldPin → ℕ → HeldBox
box_at ps ts hs j = net_box_held ps hs (get_or ts j blank_net) (pins_before j ts)

-- the lengths of the first j nets, each from its box
unfoldable pub length_to : List Spot → List HeldNet → List HeldPin → ℕ → ℕ
length_to ps ts hs zero = 0
length_to ps ts hs (suc j) = min (length_to ps ts hs j) 4294967296 + min (box_length_held (get_or ts j blank_net).weight (box_at ps ts hs j)) 4294967296

-- the lengths of a chip's nets
abbrev pub length_held : HeldChip → List Spot → ℕ
length_held c ps = length_to ps c.nets c.pins (min c.t most_nets)

-- the wirelength in an answer; 0 where it is a refusal
abbrev pub length_in : Measure → ℕ
length_in (refused number line) = 0
length_in (measured legality l) = l
