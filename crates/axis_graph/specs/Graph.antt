-- Graphs as the code has them: slots in a list, the bounds, and the slots that leave a set of nodes.
use Rattle.std.specs.Prelude.{ℕ, ◌+◌, ◌-◌, ◌≤◌, ◌<◌, ◌≡◌, Bool, true, false, List, ◌⊎◌, get_or}
use Rattle.flow_laws.specs.Flow.{Ends, Bounds, Tight}
use Rattle.axis_bounds.specs.declared.Slot.{Slot}
use Rattle.axis_bounds.specs.Listed.{slot_at, tails, heads, pluses, minuses}
use Rattle.axis_graph.specs.declared.Graph.{Graph}
use Rattle.axis_graph.specs.Limits.{node_room, slot_room, side_most, farthest, value_most}

-- a list of values or amounts as a function
abbrev pub at : List ℕ → ℕ → ℕ
at x k = get_or x k 0

-- the answer of a test says whether P holds
pub record Decides (b : Bool) (P : Type 0) : Type 0 where
  pub holds : b ≡ true → P
  pub fails : b ≡ false → P → ⊥

-- a test that passes shows P
pub record Shows (b : Bool) (P : Type 0) : Type 0 where
  pub shown : b ≡ true → P

-- ---- limits

-- a slot within the limits
pub record SlotWithin (s : Slot) : Type 0 where
  pub tail : s.tail < node_room
  pub head : s.head < node_room
  pub plus : s.plus ≤ side_most
  pub minus : s.minus ≤ side_most

-- a slot within the limits whose ends are among n nodes
pub record EndsWithin (n : ℕ) (s : Slot) : Type 0 where
  pub tail : s.tail < n
  pub head : s.head < n
  pub plus : s.plus ≤ side_most
  pub minus : s.minus ≤ side_most

-- a graph within the limits: the ends of its slots are its nodes
pub record GraphWithin (g : Graph) : Type 0 where
  pub nodes : g.n ≤ node_room
  pub slots : g.m ≤ slot_room
  pub tail : Ends (tails g.slots) g.m g.n
  pub head : Ends (heads g.slots) g.m g.n
  pub fine : (s : ℕ) → s < g.m → SlotWithin (slot_at g.slots s)

-- values within the limits
pub record ValuesWithin (x : List ℕ) : Type 0 where
  pub most : (k : ℕ) → at x k ≤ value_most

-- ---- bounds

-- the values keep the bound of s
pub record HoldsAt (s : Slot) (x : List ℕ) : Type 0 where
  pub le : at x s.tail + s.plus ≤ at x s.head + s.minus

-- the bound of s is an equation
pub record TightAt (s : Slot) (x : List ℕ) : Type 0 where
  pub eq : at x s.tail + s.plus ≡ at x s.head + s.minus

-- what the values have over the bound of s
unfoldable pub slack_at : Slot → List ℕ → ℕ
slack_at s x = (at x s.head + s.minus) - (at x s.tail + s.plus)

-- the values keep the first m bounds
abbrev pub Holds : List Slot → ℕ → List ℕ → Type 0
Holds ss m x = Bounds (tails ss) (heads ss) (pluses ss) (minuses ss) (at x) m

-- each of the first m slots that carries something is tight
abbrev pub Tights : List Slot → ℕ → List ℕ → List ℕ → Type 0
Tights ss m f x = Tight (tails ss) (heads ss) (pluses ss) (minuses ss) (at f) (at x) m

-- values that keep all bounds lie near each other
pub record CloseValues (ss : List Slot) (m n : ℕ) : Type 0 where
  pub near : (y : List ℕ) → Holds ss m y → (j k : ℕ) → j < n → k < n → at y j ≤ at y k + farthest

-- ---- slots that leave a set: a node is in the set where its rank is not 0

-- a slot with an amount and the ranks of its ends leaves the set forwards, or backwards where it carries
abbrev pub Leaves : ℕ → ℕ → ℕ → Type 0
Leaves t h amount = ((0 < t) × (h ≡ 0)) ⊎ ((t ≡ 0) × (0 < h) × (0 < amount))

pub record Leaving (t h amount : ℕ) : Type 0 where
  pub way : Leaves t h amount

abbrev pub LeavesBy : Slot → ℕ → List ℕ → Type 0
LeavesBy s amount rank = Leaving (at rank s.tail) (at rank s.head) amount

-- no slot leaves the set
pub record Closed (g : Graph) (f rank : List ℕ) : Type 0 where
  pub none : (s : ℕ) → s < g.m → LeavesBy (slot_at g.slots s) (at f s) rank → ⊥

-- a set that no slot leaves and that has a has b
pub record Leads (g : Graph) (a b : ℕ) : Type 0 where
  pub leads : (f rank : List ℕ) → Closed g f rank → 0 < at rank a → 0 < at rank b

-- two nodes, with a way from the first to the second
pub record Net (g : Graph) (lo hi : ℕ) : Type 0 where
  pub lo_in : lo < g.n
  pub hi_in : hi < g.n
  pub lo_room : lo < node_room
  pub hi_room : hi < node_room
  pub chain : Leads g lo hi
