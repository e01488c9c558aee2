-- What the two lent arrays of a direction hold of a chip, and one bound more in the second.
use Rattle.std.specs.Prelude.{ℕ, ◌+◌, ◌-◌, ◌*◌, ◌%◌, min, max, ◌≡◌, List, ◌++◌, map, length, take, set, replicate}
use Rattle.model.specs.Meaning.{Chip}
use Rattle.placement.specs.Letters.{Letter}
use Rattle.axis_bounds.specs.declared.Slot.{Slot}
use Rattle.axis_bounds.specs.Axis.{Keeps, nets_length}
use Rattle.fit_slots.specs.declared.Direction.{Direction}
use Rattle.fit_slots.specs.Axes.{axis_net, axis_for}
use Rattle.half_arrays.specs.Arrays.{raised, bound_at, nets_from, KeepsTo}

-- coordinates of the macros, and 0 for those up to 8 that the chip does not have
abbrev pub padded : List ℕ → List ℕ
padded y = y ++ replicate (8 - length y) 0

-- tab holds the nets of direction d of the chip
pub record Tabled (d : Direction) (c : Chip) (tab : List ℕ) : Type 0 where
  pub long : (z : List ℕ) → nets_length z (nets_from tab 0 32) ≡ nets_length z (map (axis_net d) c.nets)

-- arcs hold the bounds of direction d of the chip with letters ls
pub record Arced (d : Direction) (c : Chip) (ls : List Letter) (arcs : List ℕ) : Type 0 where
  pub size : length arcs ≡ 128
  pub down : (z : List ℕ) → length z ≡ 8 → KeepsTo arcs z 81 → Keeps (axis_for d c ls) (take (length c.macs) z)
  pub up : (y : List ℕ) → Keeps (axis_for d c ls) y → KeepsTo arcs (padded y) 81

-- ---- one bound more

-- the place of a slot's bound, its nodes read modulo 9
abbrev pub place_on : Slot → ℕ
place_on s = s.tail % 9 * 9 + s.head % 9

-- no number of a bound counts above this
abbrev pub limit : ℕ
limit = 1000000

-- the bound of a slot as the array holds it
abbrev pub bound_on : Slot → ℕ
bound_on s = raised + min s.plus limit - min s.minus limit

-- the greater of the bound that is there and the slot's
unfoldable pub with_bound : List ℕ → Slot → List ℕ
with_bound arcs s = set arcs (place_on s) (max (bound_at arcs (place_on s)) (bound_on s))
