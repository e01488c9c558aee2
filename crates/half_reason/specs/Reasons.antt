-- Why no coordinates as short are smaller anywhere: each macro has its value from a node of lower rank.
use Rattle.std.specs.Prelude.{ℕ, ◌+◌, ◌*◌, ◌<◌, ◌≡◌, List}
use Rattle.axis_bounds.specs.Axis.{value_at}
use Rattle.half_arrays.specs.Arrays.{raised, bound_at, entry_count, node_at, most_at, least_at, net_at}

-- entries i on node p and j on node k, of one net
pub record Beside (tab : List ℕ) (p k i j : ℕ) : Type 0 where
  pub first : i < entry_count tab
  pub second : j < entry_count tab
  pub net : net_at tab i ≡ net_at tab j
  pub from : node_at tab i ≡ p
  pub to : node_at tab j ≡ k

-- b past node p is where c past node k is
pub record Even (z : List ℕ) (p k b c : ℕ) : Type 0 where
  pub eq : value_at z p + b ≡ value_at z k + c

-- node k has its value in z from node p: the bound from p to k is tight; the bound from k to p carries;
-- two entries of one net are equally high and that of k carries to hi, or they are equally low and that of p carries from lo
pub data Follows (tab arcs : List ℕ) (f h l : ℕ → ℕ) (z : List ℕ) (p k : ℕ) : Type 0 where
  by_tight : Even z p k (bound_at arcs (p * 9 + k)) raised → Follows tab arcs f h l z p k
  by_flow : 0 < f (k * 9 + p) → Follows tab arcs f h l z p k
  by_high : (i j : ℕ) → Beside tab p k i j → 0 < h j → Even z p k (most_at tab i) (most_at tab j) → Follows tab arcs f h l z p k
  by_low : (i j : ℕ) → Beside tab p k i j → 0 < l i → Even z p k (least_at tab i) (least_at tab j) → Follows tab arcs f h l z p k

-- node k has its value from a node of lower rank
pub record Reason (tab arcs : List ℕ) (f h l : ℕ → ℕ) (z : List ℕ) (rank : ℕ → ℕ) (k : ℕ) : Type 0 where
  pub parent : ℕ
  pub inside : parent < 9
  pub lower : rank parent < rank k
  pub follows : Follows tab arcs f h l z parent k

-- the macros below node k have reasons
pub record Reasons (tab arcs : List ℕ) (f h l : ℕ → ℕ) (z : List ℕ) (rank : ℕ → ℕ) (k : ℕ) : Type 0 where
  pub at : (i : ℕ) → 0 < i → i < k → Reason tab arcs f h l z rank i
