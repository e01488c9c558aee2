-- The flow of one net.
use Rattle.std.specs.Prelude.{ℕ, ◌+◌, ◌≤◌, ◌<◌, ◌≡◌, List, eqb}
use Rattle.num_laws.specs.Sum.{when}
use Rattle.flow_laws.specs.Flow.{Balance}
use Rattle.axis_graph.specs.declared.Graph.{Graph}
use Rattle.axis_solve.specs.declared.growth.Growth.{Growth}
use Rattle.axis_graph.specs.Limits.{low_most, amount_most}
use Rattle.axis_bounds.specs.Listed.{tails, heads}
use Rattle.axis_graph.specs.Graph.{at, Holds, Tights, CloseValues}
use Rattle.axis_solve.specs.Growth.{Growing}

-- the goal joined
pub record ReachOk (g : Graph) (f : List ℕ) (start goal : ℕ) (w : Growth) : Type 0 where
  pub growing : Growing g f w
  pub from : w.start ≡ start
  pub reached : 0 < at w.rank goal

-- what values and amounts keep between two growths
pub record Sound (g : Graph) (f x : List ℕ) : Type 0 where
  pub holds : Holds g.slots g.m x
  pub tight : Tights g.slots g.m f x
  pub low : (k : ℕ) → at x k ≤ low_most
  pub near : CloseValues g.slots g.m g.n

-- every amount leaves room for r more
pub record Spare (f : List ℕ) (r : ℕ) : Type 0 where
  pub most : (s : ℕ) → at f s + r ≤ amount_most

-- f': the amounts f with q more from lo to hi
pub record Carried (g : Graph) (f : List ℕ) (lo hi q : ℕ) (f' : List ℕ) : Type 0 where
  pub most : (s : ℕ) → at f' s ≤ at f s + q
  pub idle : (s : ℕ) → tails g.slots s ≡ heads g.slots s → at f' s ≡ at f s
  pub balance : (sup dem : ℕ → ℕ) → Balance (tails g.slots) (heads g.slots) (at f) sup dem g.m g.n
      → Balance (tails g.slots) (heads g.slots) (at f') (λ k. sup k + when (eqb lo k) q) (λ k. dem k + when (eqb hi k) q) g.m g.n

-- one push of q, above 0 and at most r
pub record TurnOk (g : Graph) (f : List ℕ) (lo hi r : ℕ) (x' f' : List ℕ) (q : ℕ) : Type 0 where
  pub some : 0 < q
  pub most : q ≤ r
  pub sound : Sound g f' x'
  pub carried : Carried g f lo hi q f'

-- all of r went from lo to hi
pub record Augmented (g : Graph) (f : List ℕ) (lo hi r : ℕ) (x' f' : List ℕ) : Type 0 where
  pub sound : Sound g f' x'
  pub carried : Carried g f lo hi r f'
