-- The box of a net held as a value at positions and its length, without a test. Numbers count up to a limit that those of a tested chip do not reach.
use Rattle.std.specs.Prelude.{ℕ, ◌+◌, ◌-◌, ◌*◌, min, max, List, map}
use Rattle.std.proofs.Math.Seq.{slice}
use Rattle.model.specs.declared.Spot.{Spot}
use Rattle.model.specs.declared.Net.{Net as HeldNet}
use Rattle.model.specs.declared.Pin.{Pin as HeldPin}
use Rattle.num_laws.specs.Spread as places
use Rattle.placement.specs.Length.{origin}
use Rattle.measure_nets.specs.declared.NetBox.{NetBox as HeldBox}

-- a number, up to a limit
abbrev pub limited : ℕ → ℕ
limited n = min n 2147483648

-- the x of a pin, 4,096 higher
unfoldable pub held_x : List Spot → HeldPin → ℕ
held_x ps p = limited (origin ps p.m).x + limited p.xup

-- its y
unfoldable pub held_y : List Spot → HeldPin → ℕ
held_y ps p = limited (origin ps p.m).y + limited p.yup

-- the box with one place more
abbrev pub with_pin : HeldBox → Spot → HeldBox
with_pin b p = record { left = min b.left p.x; right = max b.right p.x; bottom = min b.bottom p.y; top = max b.top p.y }

-- the least and the greatest x and y of held pins
abbrev pub box_held : List Spot → List HeldPin → HeldBox
box_held ps hs = record {
  left = places.bottom (map (held_x ps) hs);
  right = places.top (map (held_x ps) hs);
  bottom = places.bottom (map (held_y ps) hs);
  top = places.top (map (held_y ps) hs);
}

-- the box of a net whose pins stand from `from` on
abbrev pub net_box_held : List Spot → List HeldPin → HeldNet → ℕ → HeldBox
net_box_held ps hs t from = box_held ps (slice from (from + t.pins) hs)

-- the length of a net of weight w with that box: the weight times its width plus its height
abbrev pub box_length_held : ℕ → HeldBox → ℕ
box_length_held w b = limited w * (limited (b.right - b.left) + limited (b.top - b.bottom))
