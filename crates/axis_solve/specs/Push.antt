-- A push along the parents of a growth.
use Rattle.std.specs.Prelude.{ℕ, ◌+◌, ◌≤◌, ◌<◌, ◌≡◌, List, length, eqb}
use Rattle.num_laws.specs.Sum.{when}
use Rattle.flow_laws.specs.Flow.{at_node, Balance}
use Rattle.axis_graph.specs.declared.Graph.{Graph}
use Rattle.axis_solve.specs.declared.growth.Growth.{Growth}
use Rattle.axis_graph.specs.Limits.{slot_room, amount_most}
use Rattle.axis_bounds.specs.Listed.{tails, heads}
use Rattle.axis_graph.specs.Graph.{at, Tights}
use Rattle.axis_solve.specs.Growth.{Tree}

-- the goal joined, with room for q
pub record Pushable (g : Graph) (f : List ℕ) (w : Growth) (goal q : ℕ) : Type 0 where
  pub tight : Tights g.slots g.m f w.x
  pub tree : Tree g.slots g.m g.n f w.x w.rank w.parent w.room w.count w.start
  pub goal_in : 0 < at w.rank goal
  pub much : q ≤ at w.room goal
  pub few : (s : ℕ) → at f s ≤ amount_most
  pub little : q ≤ amount_most

-- the walk from the goal towards the start stands at c, with the amounts h: slots between nodes no later than c are as before,
-- and at each node the flow differs from that of f by q more at the goal and q less at c
pub record Walked (g : Graph) (f : List ℕ) (w : Growth) (goal q : ℕ) (h : List ℕ) (c : ℕ) : Type 0 where
  pub long : length h ≡ slot_room
  pub ranked : 0 < at w.rank c
  pub much : q ≤ at w.room c
  pub same : (s : ℕ) → at w.rank (tails g.slots s) ≤ at w.rank c → at w.rank (heads g.slots s) ≤ at w.rank c → at h s ≡ at f s
  pub tight : Tights g.slots g.m h w.x
  pub most : (s : ℕ) → at h s ≤ at f s + q
  pub idle : (s : ℕ) → tails g.slots s ≡ heads g.slots s → at h s ≡ at f s
  pub moved : (k : ℕ) → at_node (heads g.slots) (at h) g.m k + at_node (tails g.slots) (at f) g.m k + when (eqb c k) q
      ≡ at_node (tails g.slots) (at h) g.m k + at_node (heads g.slots) (at f) g.m k + when (eqb goal k) q

-- whatever balanced before balances now with q more at the start and at the goal
pub record Pushed (g : Graph) (f : List ℕ) (w : Growth) (goal q : ℕ) (r : List ℕ) : Type 0 where
  pub tight : Tights g.slots g.m r w.x
  pub most : (s : ℕ) → at r s ≤ at f s + q
  pub idle : (s : ℕ) → tails g.slots s ≡ heads g.slots s → at r s ≡ at f s
  pub balance : (sup dem : ℕ → ℕ) → Balance (tails g.slots) (heads g.slots) (at f) sup dem g.m g.n
      → Balance (tails g.slots) (heads g.slots) (at r) (λ k. sup k + when (eqb w.start k) q) (λ k. dem k + when (eqb goal k) q) g.m g.n
