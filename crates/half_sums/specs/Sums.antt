-- What amounts give at their ends, and in all.
use Rattle.std.specs.Prelude.{ℕ, ◌<◌, ◌≤◌, ◌≡◌, List, get_or, length}
use Rattle.num_laws.specs.Sum.{sum}
use Rattle.flow_laws.specs.Flow.{at_node, weigh}
use Rattle.half_arrays.specs.Arrays.{from_node, to_node, bound_at, node_at, most_at, least_at, net_at}
use Rattle.half_arrays.specs.State.{flow_at, hi_at, lo_at}

-- each of the n numbers r is what the first m amounts f give at its end
pub record Gathers (end f : ℕ → ℕ) (m n : ℕ) (r : List ℕ) : Type 0 where
  pub long : length r ≡ n
  pub at : (k : ℕ) → k < n → get_or r k 0 ≡ at_node end f m k

-- of the first m entries: what they carry to hi and from lo at nodes and on nets, and that times greatest and least places
pub record EntrySums (tab st : List ℕ) (o m : ℕ) (nh nl th tl : List ℕ) (u d : ℕ) : Type 0 where
  pub node_high : Gathers (node_at tab) (hi_at st o) m 9 nh
  pub node_low : Gathers (node_at tab) (lo_at st o) m 9 nl
  pub net_high : Gathers (net_at tab) (hi_at st o) m 32 th
  pub net_low : Gathers (net_at tab) (lo_at st o) m 32 tl
  pub up : u ≡ weigh (most_at tab) (hi_at st o) m
  pub down : d ≡ weigh (least_at tab) (lo_at st o) m

-- of the first m bounds: what they carry into nodes and out of them, all of it, and that times the bounds
pub record FlowSums (arcs st : List ℕ) (o m : ℕ) (is os : List ℕ) (a b : ℕ) : Type 0 where
  pub into : Gathers to_node (flow_at st o) m 9 is
  pub out : Gathers from_node (flow_at st o) m 9 os
  pub all : a ≡ sum (flow_at st o) m
  pub by : b ≡ weigh (bound_at arcs) (flow_at st o) m

-- sums of which two are added
pub record SumsWithin (r : List ℕ) : Type 0 where
  pub at : (k : ℕ) → get_or r k 0 ≤ 8388480
