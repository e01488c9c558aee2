-- The tests of amounts, slot by slot.
use mathlib.Core.Path.{◌≡◌}
use mathlib.Core.List.{List}
use Prim.Native.Nat.{ℕ, ◌≤◌, ◌<◌}
use Rattle.axis_bounds.specs.declared.Slot.{Slot}
use Rattle.axis_bounds.specs.Listed.{tails, heads, pluses, minuses}
use Rattle.axis_graph.specs.Graph.{at}

pub record IdleTo (ss : List Slot) (m : ℕ) (f : List ℕ) (i : ℕ) : Type 0 where
  pub past : (s : ℕ) → s < i → m ≤ s → at f s ≡ 0
  pub still : (s : ℕ) → s < i → tails ss s ≡ heads ss s → pluses ss s ≡ minuses ss s → at f s ≡ 0
