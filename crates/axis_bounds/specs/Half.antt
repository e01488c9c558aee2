-- The half fit of an axis: the least length of the coordinates that keep its bounds, and of those that have it the smallest.
use Rattle.std.specs.Prelude.{ℕ, ◌<◌, ◌≡◌, List}
use Rattle.axis_bounds.specs.Axis.{Axis, Keeps, length_on}
use Rattle.axis_bounds.specs.Answer.{LeastOn}

-- the coordinates z keep the bounds of the axis, are of the least length l, and of those the smallest everywhere
pub record HalfOn (a : Axis) (l : ℕ) (z : List ℕ) : Type 0 where
  pub least : LeastOn a z
  pub long : l ≡ length_on a z

-- whatever keeps the bounds is longer than the room: the half fit is above the room, or there is none
pub record AboveOn (a : Axis) (room : ℕ) : Type 0 where
  pub longer : (y : List ℕ) → Keeps a y → room < length_on a y
