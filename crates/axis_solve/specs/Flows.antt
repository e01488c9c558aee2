-- The nets' flows, one net after the other, and the growth that comes last.
use Rattle.std.specs.Prelude.{ℕ, ◌≤◌, ◌≡◌, List}
use Rattle.num_laws.specs.Sum.{sum}
use Rattle.flow_laws.specs.Flow.{at_node, Balance}
use Rattle.axis_bounds.specs.Listed.{tails, heads}
use Rattle.axis_graph.specs.declared.Graph.{Graph}
use Rattle.axis_graph.specs.declared.Span.{Span}
use Rattle.axis_graph.specs.Graph.{at, Closed}
use Rattle.axis_graph.specs.Solved.{los, his, weights}
use Rattle.axis_solve.specs.declared.growth.Growth.{Growth}
use Rattle.axis_solve.specs.Growth.{Growing}
use Rattle.axis_solve.specs.Augment.{Sound}

-- the weights of the first j nets flow from their lower to their upper nodes
pub record Flows (g : Graph) (nets : List Span) (j : ℕ) (x f : List ℕ) : Type 0 where
  pub sound : Sound g f x
  pub most : (s : ℕ) → at f s ≤ sum (weights nets) j
  pub idle : (s : ℕ) → tails g.slots s ≡ heads g.slots s → at f s ≡ 0
  pub balance : Balance (tails g.slots) (heads g.slots) (at f) (at_node (los nets) (weights nets) j) (at_node (his nets) (weights nets) j) g.m g.n

-- the growth can go no further
pub record Settled (g : Graph) (f : List ℕ) (start : ℕ) (w : Growth) : Type 0 where
  pub growing : Growing g f w
  pub from : w.start ≡ start
  pub closed : Closed g f w.rank
