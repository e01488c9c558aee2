-- Bounds added to a graph: values that keep them, or a circulation that refutes them.
use Rattle.std.specs.Prelude.{ℕ, ◌≤◌, ◌<◌, ◌≡◌, List, ◌⊎◌, set, length, Result, MatchResult}
use Rattle.axis_bounds.specs.declared.Slot.{Slot}
use Rattle.axis_graph.specs.declared.Graph.{Graph}
use Rattle.axis_solve.specs.declared.growth.Growth.{Growth}
use Rattle.axis_graph.specs.Limits.{slot_room, low_most}
use Rattle.axis_bounds.specs.Axis.{no_slot}
use Rattle.axis_bounds.specs.Listed.{slot_at, tails, heads}
use Rattle.axis_graph.specs.Solved.{Refuted}
use Rattle.axis_graph.specs.Graph.{at, SlotWithin, Holds, HoldsAt, CloseValues, Net}
use Rattle.axis_solve.specs.Growth.{Growing}

-- slot j of the graph is s
abbrev pub with_slot : Graph → ℕ → Slot → Graph
with_slot g j s = record { n = g.n; m = g.m; slots = set g.slots j s }

-- the graph with all slots of `full`
abbrev pub target : Graph → List Slot → Graph
target g full = record { n = g.n; m = g.m; slots = full }

-- values that keep all bounds
pub record Feasible (g : Graph) (x : List ℕ) : Type 0 where
  pub holds : Holds g.slots g.m x
  pub low : (k : ℕ) → at x k ≤ low_most
  pub near : CloseValues g.slots g.m g.n

-- slot j asks nothing yet
pub record Fresh (g : Graph) (j : ℕ) : Type 0 where
  pub here : j < g.m
  pub room : j < slot_room
  pub long : length g.slots ≡ slot_room
  pub none : slot_at g.slots j ≡ no_slot

-- the bound of s holds, or its tail joined
pub record Approached (g : Graph) (f : List ℕ) (start : ℕ) (s : Slot) (w : Growth) : Type 0 where
  pub growing : Growing g f w
  pub from : w.start ≡ start
  pub done : HoldsAt s w.x ⊎ (0 < at w.rank s.tail)

-- values that keep the bounds, or the circulation that refutes them
abbrev pub AdmitOk : Graph → Result (List ℕ) (List ℕ) → Type 0
AdmitOk g r = MatchResult r (Feasible g) (Refuted g)

-- the graph has the slots of `full` but those from j up to `to`, which ask nothing yet; each of these has a way from its head
-- to its tail already
pub record Wanted (g : Graph) (full : List Slot) (j to : ℕ) : Type 0 where
  pub end : to ≤ g.m
  pub long : length g.slots ≡ slot_room
  pub long_full : length full ≡ slot_room
  pub fresh : (k : ℕ) → j ≤ k → k < to → slot_at g.slots k ≡ no_slot
  pub below : (k : ℕ) → k < j → slot_at g.slots k ≡ slot_at full k
  pub past : (k : ℕ) → to ≤ k → slot_at g.slots k ≡ slot_at full k
  pub fine : (k : ℕ) → j ≤ k → k < to → SlotWithin (slot_at full k)
  pub net : (k : ℕ) → j ≤ k → k < to → Net g (heads full k) (tails full k)
