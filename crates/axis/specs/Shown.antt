-- What the test of a proposed answer shows of the axis.
use Rattle.std.specs.Prelude.{ℕ, List}
use Rattle.axis_bounds.specs.declared.Axis.{Axis as HeldAxis}
use Rattle.axis_graph.specs.Service.{SolvedOk}
use Rattle.axis_held.specs.Graphs.{Offsets}

-- the coordinates from the values x, and the amounts f, are the answer
pub record ShownFit (a : HeldAxis) (x f : List ℕ) : Type 0 where
  pub solved : (z : List ℕ) → Offsets x z a.n → SolvedOk a z f
