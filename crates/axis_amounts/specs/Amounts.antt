-- What the tests of proposed amounts show.
use Rattle.std.specs.Prelude.{ℕ, ◌+◌, ◌*◌, ◌≤◌, ◌<◌, ◌≡◌, List, length, get_or, set, replicate}
use Rattle.flow_laws.specs.Flow.{at_node, weigh, Balance}
use Rattle.num_laws.specs.Sum.{sum}
use Rattle.axis_bounds.specs.Listed.{tails, heads, pluses, minuses}
use Rattle.axis_graph.specs.declared.Graph.{Graph}
use Rattle.axis_graph.specs.declared.Span.{Span}
use Rattle.axis_graph.specs.Limits.{node_room, slot_room, weight_most, amount_most}
use Rattle.axis_graph.specs.Graph.{at, GraphWithin}
use Rattle.axis_graph.specs.Solved.{no_span, los, his, weights, NetEnds}

-- no slot carries more than q
pub record Within (f : List ℕ) (q : ℕ) : Type 0 where
  pub most : (s : ℕ) → at f s ≤ q

-- nothing is carried past the last slot, nor by a slot from a node to itself that asks nothing
pub record Idle (g : Graph) (f : List ℕ) : Type 0 where
  pub past : (s : ℕ) → g.m ≤ s → at f s ≡ 0
  pub still : (s : ℕ) → tails g.slots s ≡ heads g.slots s → pluses g.slots s ≡ minuses g.slots s → at f s ≡ 0

-- ---- sums at the nodes

-- no sums yet
abbrev pub no_sums : List ℕ
no_sums = replicate node_room 0

-- the sums with a more at node k
abbrev pub added_at : List ℕ → ℕ → ℕ → List ℕ
added_at sums k a = set sums k (at sums k + a)

-- the most that a sum is
abbrev pub sum_most : ℕ
sum_most = (slot_room + 1) * amount_most

-- an amount may leave one node and enter another: the sums there stay within the limit
pub record RoomFor (into out : List ℕ) (from to a : ℕ) : Type 0 where
  pub from_node_law : from < node_room
  pub to_node_law : to < node_room
  pub into_most : at into to + a ≤ sum_most
  pub out_most : at out from + a ≤ sum_most

-- r: what b has at each node, and the first i amounts at their ends
pub record Gathered (b : List ℕ) (end f : ℕ → ℕ) (i : ℕ) (r : List ℕ) : Type 0 where
  pub long : length r ≡ node_room
  pub is : (k : ℕ) → k < node_room → at r k ≡ at b k + at_node end f i k

-- what enters each node and what leaves it: what there was, and the first i amounts
pub record Summed (into₀ out₀ : List ℕ) (to from f : ℕ → ℕ) (i : ℕ) (into out : List ℕ) : Type 0 where
  pub into_at : Gathered into₀ to f i into
  pub out_at : Gathered out₀ from f i out

-- sums of the slots within the limit
pub record Modest (into out : List ℕ) : Type 0 where
  pub long_into : length into ≡ node_room
  pub long_out : length out ≡ node_room
  pub into_most : (k : ℕ) → k < node_room → at into k ≤ slot_room * amount_most
  pub out_most : (k : ℕ) → k < node_room → at out k ≤ slot_room * amount_most

-- a net between two of n nodes, its weight within the limit
pub record SpanWithin (n : ℕ) (p : Span) : Type 0 where
  pub lo : p.lo < n
  pub hi : p.hi < n
  pub weight : p.weight ≤ weight_most

-- the first c nets of a graph
pub record SpansWithin (n : ℕ) (nets : List Span) (c : ℕ) : Type 0 where
  pub at : (j : ℕ) → j < c → SpanWithin n (get_or nets j no_span)

-- the ends of the first c nets and the sum of their weights are within the limits
pub record Spanned (nets : List Span) (c : ℕ) : Type 0 where
  pub lo : (j : ℕ) → j < c → los nets j < node_room
  pub hi : (j : ℕ) → j < c → his nets j < node_room
  pub total : sum (weights nets) c ≤ amount_most

-- ---- chains and flows

pub record Outweighs (g : Graph) (f : List ℕ) : Type 0 where
  pub more : weigh (minuses g.slots) (at f) g.m < weigh (pluses g.slots) (at f) g.m

-- as much enters each node as leaves it
pub record Closed (g : Graph) (f : List ℕ) : Type 0 where
  pub balance : Balance (tails g.slots) (heads g.slots) (at f) (λ k. 0) (λ k. 0) g.m g.n

-- the same, where the weights of the first c nets enter at lo and leave at hi
pub record Balanced (g : Graph) (nets : List Span) (c : ℕ) (f : List ℕ) : Type 0 where
  pub balance : Balance (tails g.slots) (heads g.slots) (at f) (at_node (los nets) (weights nets) c) (at_node (his nets) (weights nets) c) g.m g.n

-- amounts on a graph within the limits that carry the weights of its nets
pub record Flow (g : Graph) (nets : List Span) (c : ℕ) (f : List ℕ) : Type 0 where
  pub fine : GraphWithin g
  pub ends : NetEnds g nets c
  pub most : Within f (sum (weights nets) c)
  pub idle : Idle g f
  pub balance : Balance (tails g.slots) (heads g.slots) (at f) (at_node (los nets) (weights nets) c) (at_node (his nets) (weights nets) c) g.m g.n
