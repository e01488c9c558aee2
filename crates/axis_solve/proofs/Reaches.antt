-- Growths that go on until a goal joins, a bound holds, or no slot leaves.
use mathlib.Core.Path.{◌≡◌, subst}
use mathlib.Core.List.{List}
use Prim.Native.Nat.{ℕ, ◌<◌}
use Rattle.axis_graph.specs.declared.Graph.{Graph}
use Rattle.axis_solve.specs.declared.growth.Growth.{Growth}
use Rattle.axis_graph.specs.Graph.{at, Leads, Closed}
use Rattle.axis_solve.specs.Growth.{Growing}

-- a growth that began at start
pub record Reaching (g : Graph) (f : List ℕ) (start : ℕ) (w : Growth) : Type 0 where
  pub growing : Growing g f w
  pub from : w.start ≡ start

module _ (g : Graph) (f : List ℕ) where
  module _ (start : ℕ) (w : Growth) (i : Reaching g f start w) where
    module _ (cl : Closed g f w.rank) where
      -- no slot leaves, so a node that the start leads to has joined
      inside : (goal : ℕ) → Leads g start goal → 0 < at w.rank goal
      inside goal c = c.leads f w.rank cl (subst (λ (k : ℕ). 0 < at w.rank k) i.from i.growing.tree.root)
