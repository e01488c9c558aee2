-- What the tests of amounts hold.
use Rattle.std.specs.Prelude.{ℕ, ◌+◌, ◌<◌, ◌≡◌, List, get_or}
use Rattle.half_arrays.specs.Arrays.{weight_at}
use Rattle.half_arrays.specs.State.{flow_at, hi_at, lo_at}
use Rattle.half_worth.specs.Amounts.{gained, lost}

-- the first k sums are equal
pub record Level (into low out high : List ℕ) (k : ℕ) : Type 0 where
  pub at : (i : ℕ) → i < k → get_or into i 0 + get_or low i 0 ≡ get_or out i 0 + get_or high i 0

-- the first k nets have their weights at hi and at lo
pub record Given (tab hs ls : List ℕ) (k : ℕ) : Type 0 where
  pub high : (j : ℕ) → j < k → get_or hs j 0 ≡ weight_at tab j
  pub low : (j : ℕ) → j < k → get_or ls j 0 ≡ weight_at tab j

-- the worth of all amounts
pub record WorthSums (tab arcs st : List ℕ) (o g l : ℕ) : Type 0 where
  pub more : g ≡ gained tab arcs (flow_at st o) (hi_at st o)
  pub less : l ≡ lost tab (flow_at st o) (lo_at st o)
