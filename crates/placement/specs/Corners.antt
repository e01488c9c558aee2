-- Positions in the range that document 01 gives for measuring.
use Rattle.std.specs.Prelude.{ℕ, ◌≤◌, ◌<◌, List, length, get_or, nat_abs}
use Rattle.model.specs.declared.Spot.{Spot}
use Rattle.model.specs.Meaning.{blank_spot}
use Rattle.model.specs.Limits.{placed_corner}

-- positions in their range
pub record CornersWithin (ps : List Spot) : Type 0 where
  pub x : (i : ℕ) → i < length ps → (get_or ps i blank_spot).x ≤ nat_abs placed_corner.most
  pub y : (i : ℕ) → i < length ps → (get_or ps i blank_spot).y ≤ nat_abs placed_corner.most
