-- Bounds that no coordinates keep.
use Rattle.std.specs.Prelude.{ℕ, ◌+◌, ◌*◌, ◌≤◌, List}
use Rattle.axis_bounds.specs.Axis.{value_at}
use Rattle.half_arrays.specs.Arrays.{raised, KeepsTo}

-- no coordinates keep all bounds
pub record Empty (arcs : List ℕ) : Type 0 where
  pub none : (z : List ℕ) → KeepsTo arcs z 81 → ⊥

-- in all coordinates that keep the bounds, node a is at least as far above node w as a chain of k bounds says, of which each is held higher
pub record Chained (arcs : List ℕ) (w a sum k : ℕ) : Type 0 where
  pub far : (z : List ℕ) → KeepsTo arcs z 81 → value_at z w + sum ≤ value_at z a + k * raised
