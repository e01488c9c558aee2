-- What enters each node, and what leaves it.
use Rattle.std.specs.Prelude.{ℕ, ◌<◌, ◌≡◌, List}
use Rattle.axis_graph.specs.Graph.{at}

-- as much enters as leaves, at each of the first n nodes
pub record Even (into out : List ℕ) (n : ℕ) : Type 0 where
  pub eq : (k : ℕ) → k < n → at into k ≡ at out k
