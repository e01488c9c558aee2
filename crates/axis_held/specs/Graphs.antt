-- What the graphs, the nets and the coordinates of an axis that is held as a value are. An axis beyond the limits has none.
use Rattle.std.specs.Prelude.{ℕ, suc, ◌-◌, ◌≤◌, ◌<◌, ◌≡◌, List, length, get_or, replicate}
use Rattle.axis_bounds.specs.declared.Axis.{Axis as HeldAxis}
use Rattle.axis_bounds.specs.Axis.{no_slot}
use Rattle.axis_bounds.specs.Held.{Held}
use Rattle.axis_graph.specs.declared.Graph.{Graph}
use Rattle.axis_graph.specs.declared.Span.{Span}
use Rattle.axis_graph.specs.Limits.{slot_room, net_room}
use Rattle.axis_graph.specs.Graph.{at}
use Rattle.axis_graph.specs.Solved.{no_span}
use Rattle.axis_graph.specs.Build.{SpansTo}

-- no nodes
abbrev pub blank_graph : Graph
blank_graph = record { n = 0; m = 0; slots = replicate slot_room no_slot }

-- r is g, where the axis is within the limits
pub record GraphOf (a : HeldAxis) (g r : Graph) : Type 0 where
  pub held : Held a → r ≡ g
  pub beyond : (Held a → ⊥) → r ≡ blank_graph

-- the ends and weights of the nets
pub record SpansOfAxis (a : HeldAxis) (r : List Span) : Type 0 where
  pub held : Held a → SpansTo a.n a.nets a.t r
  pub beyond : (Held a → ⊥) → r ≡ replicate net_room no_span

-- how far the first n macros lie from node 0; 0 where they lie before it, and past the last
pub record Offsets (x r : List ℕ) (n : ℕ) : Type 0 where
  pub long : length r ≡ 8
  pub at : (k : ℕ) → k < n → k < 8 → get_or r k 0 ≡ at x (suc k) - at x 0
  pub rest : (k : ℕ) → n ≤ k → get_or r k 0 ≡ 0
