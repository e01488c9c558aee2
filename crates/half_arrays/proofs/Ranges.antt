-- How large the numbers are that the arrays hold.
use Prim.Native.Nat.{ℕ, ◌≤◌, ◌<◌}
use mathlib.Core.Path.{◌≡◌}
use mathlib.Core.List.{List}
use native.Mathlib.Omega.{arith}
use Rattle.half_arrays.specs.Arrays.{bound_at, entry_count, node_at, most_at, least_at, net_at}
use Rattle.half_arrays.specs.State.{amount_at}

pub amount_most_law : (st : List ℕ) (o p k : ℕ) → amount_at st o p k ≤ 65535
unfolding amount_at
amount_most_law st o p k = omega arith

pub bound_most : (arcs : List ℕ) (c : ℕ) → bound_at arcs c ≤ 33554431
unfolding bound_at
bound_most arcs c = omega arith

module _ (tab : List ℕ) where
  pub count_most : entry_count tab ≤ 128
  unfolding entry_count
  count_most = omega arith

  -- places are in the range of bounds
  pub most_most : (e : ℕ) → most_at tab e ≤ 33554431
  unfolding most_at
  most_most e = omega arith

  pub least_most : (e : ℕ) → least_at tab e ≤ 33554431
  unfolding least_at
  least_most e = omega arith

  pub node_below : (i k : ℕ) → k ≡ node_at tab i → k < 9
  unfolding node_at
  node_below i k d = omega arith

  pub net_below : (i j : ℕ) → j ≡ net_at tab i → j < 32
  unfolding net_at
  net_below i j d = omega arith
