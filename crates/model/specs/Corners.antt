-- Corners and their coordinates.
use Rattle.std.specs.Prelude.{ℕ, List, [], ◌∷◌}
use Rattle.model.specs.declared.Spot.{Spot}

-- corners from their x and their y
unfoldable pub spots_of : List ℕ → List ℕ → List Spot
spots_of [] ys = []
spots_of (x ∷ xs) [] = []
spots_of (x ∷ xs) (y ∷ ys) = record { x = x; y = y } ∷ spots_of xs ys
