-- Differences between corners of macros and the die corner, in a direction; what a letter asks as a difference, and its opposite.
use Rattle.std.specs.Prelude.{ℕ, suc, ◌+◌, List, Bool, leb, get_or}
use Rattle.model.specs.declared.Spot.{Spot}
use Rattle.model.specs.Meaning.{Chip, blank_fix, blank_mac}
use Rattle.placement.specs.Letters.{Letter, left, right, low, high, dot}
use Rattle.axis_bounds.specs.declared.Slot.{Slot}
use Rattle.axis_bounds.specs.Axis.{value_at}
use Rattle.axis_bounds.specs.Listed.{slot}
use Rattle.fit_slots.specs.declared.Direction.{Direction}
use Rattle.fit_slots.specs.declared.Direction.TheVariants.{Horizontal as horizontal, Vertical as vertical}
use Rattle.fit_slots.specs.Slots.{asked, Couple, mac_fix, couples}
use Rattle.fit_slots.specs.Axes.{held_slot, corners_on}

-- the difference value(tail) + plus ≤ value(head) + minus in a direction; node 0 is the die corner, node i macro i
pub record Difference : Type 0 where
  pub way : Direction
  pub bound : Slot

abbrev pub difference : Direction → ℕ → ℕ → ℕ → ℕ → Difference
difference d t h p m = record { way = d; bound = slot t h p m }

-- the value of a node in a direction
abbrev pub value_on : Direction → List Spot → ℕ → ℕ
value_on d ps k = value_at (corners_on d ps) k

abbrev pub keeps_one : List Spot → Difference → Bool
keeps_one ps e = leb (value_on e.way ps e.bound.tail + e.bound.plus) (value_on e.way ps e.bound.head + e.bound.minus)

-- one track the other way: value(head) + minus + 1 ≤ value(tail) + plus
abbrev pub contrary : Difference → Difference
contrary e = difference e.way e.bound.head e.bound.tail (suc e.bound.minus) e.bound.plus

-- ---- what a letter asks, as a difference

abbrev pub way_of : Letter → Direction
way_of left = horizontal
way_of right = horizontal
way_of low = vertical
way_of high = vertical
way_of dot = horizontal

abbrev pub asks : Letter → Couple → Difference
asks m q = record { way = way_of m; bound = held_slot (way_of m) (asked (way_of m) m) q }

abbrev pub no_couple : Couple
no_couple = mac_fix 0 blank_mac blank_fix

-- of the pair at place s: what the letter asks, and its opposite
abbrev pub asks_at : Chip → ℕ → Letter → Difference
asks_at c s m = asks m (get_or (couples c) s no_couple)

abbrev pub opposite_at : Chip → ℕ → Letter → Difference
opposite_at c s m = contrary (asks_at c s m)
