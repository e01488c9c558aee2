-- The least values of a graph, and of those the smallest; and the circulation that shows that there are none.
use Rattle.std.specs.Prelude.{ℕ, ◌+◌, ◌≤◌, ◌<◌, ◌≡◌, List, get_or}
use Rattle.num_laws.specs.Sum.{sum}
use Rattle.flow_laws.specs.Flow.{at_node, weigh, Balance}
use Rattle.axis_graph.specs.declared.Graph.{Graph}
use Rattle.axis_graph.specs.declared.Span.{Span}
use Rattle.axis_graph.specs.Limits.{amount_most}
use Rattle.axis_bounds.specs.Axis.{no_slot}
use Rattle.axis_bounds.specs.Listed.{slot_at, tails, heads, pluses, minuses}
use Rattle.axis_graph.specs.Graph.{at, Holds, Leads, Net}

abbrev pub no_span : Span
no_span = record { lo = 0; hi = 0; weight = 0 }

abbrev pub los : List Span → ℕ → ℕ
los nets j = (get_or nets j no_span).lo

abbrev pub his : List Span → ℕ → ℕ
his nets j = (get_or nets j no_span).hi

abbrev pub weights : List Span → ℕ → ℕ
weights nets j = (get_or nets j no_span).weight

-- the ends of the first c nets are nodes of the graph
pub record NetEnds (g : Graph) (nets : List Span) (c : ℕ) : Type 0 where
  pub lo : (j : ℕ) → j < c → los nets j < g.n
  pub hi : (j : ℕ) → j < c → his nets j < g.n

-- the first c nets: nodes with a way from lo to hi, and weights within the limit
pub record Nets (g : Graph) (nets : List Span) (c : ℕ) : Type 0 where
  pub net : (j : ℕ) → j < c → Net g (los nets j) (his nets j)
  pub total : sum (weights nets) c ≤ amount_most

-- the sums of weight times value of the upper, of the lower nodes: their difference is the wirelength of the axis
unfoldable pub upper : List Span → ℕ → List ℕ → ℕ
upper nets c x = weigh (λ j. at x (his nets j)) (weights nets) c

unfoldable pub lower : List Span → ℕ → List ℕ → ℕ
lower nets c x = weigh (λ j. at x (los nets j)) (weights nets) c

-- the values x keep the bounds; the amounts f balance, carry nothing on a slot from a node to itself, and weigh as much as the
-- wirelength of x; no values under the bounds have less; and no such values with as little have a node that 0 leads to nearer
-- to node 0
pub record Solved (g : Graph) (nets : List Span) (c : ℕ) (x f : List ℕ) : Type 0 where
  pub holds : Holds g.slots g.m x
  pub most : (s : ℕ) → at f s ≤ sum (weights nets) c
  pub idle : (s : ℕ) → tails g.slots s ≡ heads g.slots s → at f s ≡ 0
  pub balance : Balance (tails g.slots) (heads g.slots) (at f) (at_node (los nets) (weights nets) c) (at_node (his nets) (weights nets) c) g.m g.n
  pub reaches : weigh (pluses g.slots) (at f) g.m + lower nets c x ≡ weigh (minuses g.slots) (at f) g.m + upper nets c x
  pub least : (z : List ℕ) → Holds g.slots g.m z → upper nets c x + lower nets c z ≤ upper nets c z + lower nets c x
  pub smallest : (z : List ℕ) → Holds g.slots g.m z → upper nets c z + lower nets c x ≤ upper nets c x + lower nets c z
      → (k : ℕ) → Leads g 0 k → at x k + at z 0 ≤ at z k + at x 0

-- a circulation, 0 or 1 on every slot and 0 where nothing is asked, whose pluses outweigh its minuses: no values keep all bounds
pub record Refuted (g : Graph) (f : List ℕ) : Type 0 where
  pub few : (k : ℕ) → at f k ≤ 1
  pub idle : (k : ℕ) → slot_at g.slots k ≡ no_slot → at f k ≡ 0
  pub balance : Balance (tails g.slots) (heads g.slots) (at f) (λ k. 0) (λ k. 0) g.m g.n
  pub more : weigh (minuses g.slots) (at f) g.m < weigh (pluses g.slots) (at f) g.m
