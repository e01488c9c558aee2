-- An axis held as a value that the solver takes: counts within the arrays, numbers within the limits.
use Rattle.std.specs.Prelude.{ℕ, zero, suc, ◌+◌, ◌≤◌, List, [], ◌∷◌}
use Rattle.axis_bounds.specs.declared.AxisNet.{AxisNet}
use Rattle.axis_bounds.specs.declared.Axis.{Axis as HeldAxis}
use Rattle.axis_bounds.specs.Axis.{axis_of, WellFormed}

-- the pins of the first j nets
unfoldable pub pins_before : ℕ → List AxisNet → ℕ
pins_before zero ts = 0
pins_before (suc j) [] = 0
pins_before (suc j) (t ∷ ts) = t.pins + pins_before j ts

pub record Held (a : HeldAxis) : Type 0 where
  pub macs : a.n ≤ 8
  pub pairs : a.p ≤ 120
  pub nets : a.t ≤ 32
  pub pins : pins_before a.t a.nets ≤ 128
  pub fine : WellFormed (axis_of a)
