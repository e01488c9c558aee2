-- The boxes of nets and how long the nets are over natural corners, as the program computes it: those of Integers.antt (proofs/Integers.antt, `box_same`,
-- `length_same`).
use Rattle.std.specs.Prelude.{ℕ, zero, suc, ◌+◌, List, [], ◌∷◌, map, get_or, ℤ, pos, ◌+ℤ◌}
use Rattle.model.specs.declared.Spot.{Spot}
use Rattle.model.specs.Meaning.{Pin, Net, Chip, blank_spot}
use Rattle.placement.specs.Integers.{NetBox, box_around, box_length}

-- the corner that a pin's x and y are added to: the macro's, or 0,0 for a pad
abbrev pub origin : List Spot → ℕ → Spot
origin ps zero = blank_spot
origin ps (suc m) = get_or ps m blank_spot

-- where a pin lies
abbrev pub pin_x : List Spot → Pin → ℤ
pin_x ps p = pos (origin ps p.m).x +ℤ p.x

abbrev pub pin_y : List Spot → Pin → ℤ
pin_y ps p = pos (origin ps p.m).y +ℤ p.y

-- the box of a net
abbrev pub net_box : List Spot → Net → NetBox
net_box ps t = box_around (map (pin_x ps) t.pins) (map (pin_y ps) t.pins)

-- its length
unfoldable pub net_length : List Spot → Net → ℕ
net_length ps t = box_length t.weight (net_box ps t)

unfoldable pub nets_length : List Spot → List Net → ℕ
nets_length ps [] = 0
nets_length ps (t ∷ ts) = net_length ps t + nets_length ps ts

abbrev pub wirelength : Chip → List Spot → ℕ
wirelength c ps = nets_length ps c.nets
