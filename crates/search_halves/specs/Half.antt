-- A direction's half of a fit: the least length and, of the coordinates that have it, the smallest, under that direction's bounds. Two halves
-- joined are a placement with its length.
use Rattle.std.specs.Prelude.{ℕ, ◌+◌, List}
use Rattle.model.specs.Corners.{spots_of}
use Rattle.placement.specs.Least.{Best, nothing, found}
use Rattle.axis_bounds.specs.Axis.{Axis, Keeps}
use Rattle.axis_bounds.specs.Half.{HalfOn}
use Rattle.fit_slots.specs.declared.Direction.{Direction}
use Rattle.fit_slots.specs.declared.Direction.TheVariants.{Horizontal as horizontal, Vertical as vertical}

-- no coordinates keep the bounds, or a length and coordinates
pub data Half : Type 0 where
  no_half : Half
  half : ℕ → List ℕ → Half

-- the half fit of an axis
abbrev pub IsHalf : Axis → Half → Type 0
IsHalf a no_half = (y : List ℕ) → Keeps a y → ⊥
IsHalf a (half l z) = HalfOn a l z

-- the placement of two halves, horizontal and vertical; its length is their sum
abbrev pub joined : Half → Half → Best
joined no_half k = nothing
joined (half l xs) no_half = nothing
joined (half l xs) (half m ys) = found (l + m) (spots_of xs ys)

abbrev pub other_way : Direction → Direction
other_way horizontal = vertical
other_way vertical = horizontal
