-- Entries of a list that are above a limit.
use Rattle.std.specs.Prelude.{ℕ, ◌≤◌, ◌<◌, List, get_or}

-- the first i entries are at most the limit
pub record NoneAbove (limit : ℕ) (ws : List ℕ) (i : ℕ) : Type 0 where
  pub le : (k : ℕ) → k < i → get_or ws k 0 ≤ limit

-- i: the first of k entries above the limit, or k
pub record FirstAbove (limit : ℕ) (ws : List ℕ) (k i : ℕ) : Type 0 where
  pub most : i ≤ k
  pub before : NoneAbove limit ws i
  pub above : i < k → limit < get_or ws i 0
