-- What the tests of proposed values show.
use Rattle.std.specs.Prelude.{ℕ, ◌+◌, ◌≤◌, ◌<◌, List}
use Rattle.axis_bounds.specs.declared.Slot.{Slot}
use Rattle.axis_bounds.specs.Listed.{slot_at, tails, heads}
use Rattle.axis_graph.specs.declared.Graph.{Graph}
use Rattle.axis_graph.specs.Limits.{low_most}
use Rattle.axis_graph.specs.Graph.{at, TightAt, GraphWithin, Holds, Tights}
use Rattle.axis_tie.specs.Tied.{Tied}

-- values within the limit that keep all bounds
pub record Kept (g : Graph) (x : List ℕ) : Type 0 where
  pub holds : Holds g.slots g.m x
  pub low : (k : ℕ) → at x k ≤ low_most

-- ---- parents

-- the parent slot of a node, and its rank
abbrev pub parent_of : List ℕ → ℕ → ℕ
parent_of parents k = at parents k

abbrev pub rank_of : List ℕ → ℕ → ℕ
rank_of parents k = at parents (128 + k)

-- node k has a parent among the first m slots
pub record Parent (ss : List Slot) (m : ℕ) (f x parents : List ℕ) (k : ℕ) : Type 0 where
  pub slot : parent_of parents k < m
  pub tight : TightAt (slot_at ss (parent_of parents k)) x
  pub tied : Tied (slot_at ss (parent_of parents k)) k (at f (parent_of parents k))
      (rank_of parents (tails ss (parent_of parents k))) (rank_of parents (heads ss (parent_of parents k))) (rank_of parents k)

-- of the first n nodes every one but 0 has a parent
pub record Rooted (ss : List Slot) (m : ℕ) (f x parents : List ℕ) (n : ℕ) : Type 0 where
  pub parent : (k : ℕ) → 0 < k → k < n → Parent ss m f x parents k

-- ---- all of it

-- values that keep all bounds and are tight where something is carried, with a tree of parents
pub record Rests (g : Graph) (f x parents : List ℕ) : Type 0 where
  pub fine : GraphWithin g
  pub kept : Kept g x
  pub tight : Tights g.slots g.m f x
  pub rooted : Rooted g.slots g.m f x parents g.n
