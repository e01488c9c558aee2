-- The coordinates of the macros, one after the other.
use mathlib.Core.Path.{◌≡◌}
use mathlib.Core.List.{List}
use Prim.Native.Nat.{ℕ, suc, ◌-◌, ◌≤◌, ◌<◌}
use lib.ListN.{length, get_or}
use Rattle.axis_graph.specs.Graph.{at}

-- the first i of n macros have their coordinates
pub record OffsetsTo (x : List ℕ) (n : ℕ) (r : List ℕ) (i : ℕ) : Type 0 where
  pub long : length r ≡ 8
  pub at : (k : ℕ) → k < i → k < n → get_or r k 0 ≡ at x (suc k) - at x 0
  pub rest : (k : ℕ) → i ≤ k → get_or r k 0 ≡ 0
  pub past : (k : ℕ) → n ≤ k → get_or r k 0 ≡ 0
