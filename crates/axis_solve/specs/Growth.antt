-- The growth of a set along tight slots: what its state keeps, and what a step promises.
use Rattle.std.specs.Prelude.{ℕ, ◌+◌, ◌≤◌, ◌<◌, ◌≡◌, List, ◌⊎◌, get_or, set, length, replicate, eqb, Option, MatchOption}
use Rattle.num_laws.specs.Sum.{sum, when}
use Rattle.axis_bounds.specs.declared.Slot.{Slot}
use Rattle.axis_graph.specs.declared.Graph.{Graph}
use Rattle.axis_solve.specs.declared.growth.Growth.{Growth}
use Rattle.axis_graph.specs.Limits.{node_room, farthest, low_most, no_slack}
use Rattle.axis_bounds.specs.Axis.{no_slot}
use Rattle.axis_bounds.specs.Listed.{slot_at, tails, heads}
use Rattle.axis_graph.specs.Graph.{at, GraphWithin, ValuesWithin, TightAt, slack_at, Holds, Tights, CloseValues, LeavesBy, Closed}

-- the set of one node
abbrev pub seed_of : List ℕ → ℕ → ℕ → Growth
seed_of x start r =
    record {
      x = x;
      rank = set (replicate node_room 0) start 1;
      parent = replicate node_room 0;
      room = set (replicate node_room 0) start r;
      count = 1;
      start = start;
    }

-- node v joined by slot p, with room q
abbrev pub join_of : Growth → List ℕ → ℕ → ℕ → ℕ → Growth
join_of w y v p q =
    record { x = y; rank = set w.rank v (w.count + 1); parent = set w.parent v p; room = set w.room v q; count = w.count + 1; start = w.start }

-- of the first i slots, the one of least slack that leaves
pub record Least (ss : List Slot) (m : ℕ) (f x rank : List ℕ) (i best by : ℕ) : Type 0 where
  pub least : (s : ℕ) → s < i → LeavesBy (slot_at ss s) (at f s) rank → by ≤ slack_at (slot_at ss s) x
  pub found : by < no_slack → (best < m) × LeavesBy (slot_at ss best) (at f best) rank × (by ≡ slack_at (slot_at ss best) x)

-- y: the values x, of the first i nodes those in the set raised by d
pub record Raised (rank : List ℕ) (d : ℕ) (x y : List ℕ) (i : ℕ) : Type 0 where
  pub long : length y ≡ node_room
  pub out : (k : ℕ) → at rank k ≡ 0 → at y k ≡ at x k
  pub within : (k : ℕ) → k < i → 0 < at rank k → at y k ≡ at x k + d
  pub rest : (k : ℕ) → i ≤ k → at y k ≡ at x k

-- ---- the tree of parents

-- u stands earlier than k, and has at least its room
pub record From (rank room : List ℕ) (u k : ℕ) : Type 0 where
  pub ranked : 0 < at rank u
  pub before : at rank u < at rank k
  pub much : at room k ≤ at room u

-- slot p goes to k from an earlier node
pub record Forward (ss : List Slot) (rank room : List ℕ) (k p : ℕ) : Type 0 where
  pub end : heads ss p ≡ k
  pub from : From rank room (tails ss p) k

-- slot p goes from k to an earlier node, and carries the room of k
pub record Backward (ss : List Slot) (f rank room : List ℕ) (k p : ℕ) : Type 0 where
  pub end : tails ss p ≡ k
  pub from : From rank room (heads ss p) k
  pub carries : at room k ≤ at f p

-- node k was joined by slot p
pub record Link (ss : List Slot) (m : ℕ) (f x rank room : List ℕ) (k p : ℕ) : Type 0 where
  pub slot : p < m
  pub tight : TightAt (get_or ss p no_slot) x
  pub way : Forward ss rank room k p ⊎ Backward ss f rank room k p

-- each node of the set but the start has a parent
pub record Tree (ss : List Slot) (m n : ℕ) (f x rank parent room : List ℕ) (count start : ℕ) : Type 0 where
  pub root : 0 < at rank start
  pub most : (k : ℕ) → at rank k ≤ count
  pub nodes : (k : ℕ) → 0 < at rank k → k < n
  pub some : (k : ℕ) → 0 < at rank k → 0 < at room k
  pub link : (k : ℕ) → 0 < at rank k → (k ≡ start → ⊥) → Link ss m f x rank room k (at parent k)

-- how many of the first n nodes are outside the set
unfoldable pub outside : List ℕ → ℕ → ℕ
outside rank n = sum (λ k. when (eqb (at rank k) 0) 1) n

-- the values outside the set are as low as between two growths
pub record Low (x rank : List ℕ) : Type 0 where
  pub low : (k : ℕ) → at rank k ≡ 0 → at x k ≤ low_most

-- what every step keeps
pub record Growing (g : Graph) (f : List ℕ) (w : Growth) : Type 0 where
  pub holds : Holds g.slots g.m w.x
  pub tight : Tights g.slots g.m f w.x
  pub tree : Tree g.slots g.m g.n f w.x w.rank w.parent w.room w.count w.start
  pub small : ValuesWithin w.x
  pub low : Low w.x w.rank
  pub near : CloseValues g.slots g.m g.n
  pub few : w.count + outside w.rank g.n ≤ node_room

-- ---- a step

-- slot p is the one of least slack that leaves, and y the values raised by its slack
pub record Ready (g : Graph) (f : List ℕ) (w : Growth) (y : List ℕ) (p : ℕ) : Type 0 where
  pub fine : GraphWithin g
  pub growing : Growing g f w
  pub by : ℕ
  pub least : Least g.slots g.m f w.x w.rank g.m p by
  pub below : by < no_slack
  pub raised : Raised w.rank by w.x y node_room

-- one more node joined
pub record Joined (g : Graph) (f : List ℕ) (w w' : Growth) : Type 0 where
  pub growing : Growing g f w'
  pub node : ℕ
  pub new : 0 < at w'.rank node
  pub start : w'.start ≡ w.start
  pub fewer : outside w'.rank g.n < outside w.rank g.n
  pub out : (k : ℕ) → at w'.rank k ≡ 0 → at w'.x k ≡ at w.x k

-- one more node joined, or no slot leaves
abbrev pub StepOk : Graph → List ℕ → Growth → Option Growth → Type 0
StepOk g f w r = MatchOption r (Closed g f w.rank) (Joined g f w)

-- ---- back to the middle

-- every value lies near that of node 0
pub record Spread (x : List ℕ) (n : ℕ) : Type 0 where
  pub near : (k : ℕ) → k < n → (at x 0 ≤ at x k + farthest) × (at x k ≤ at x 0 + farthest)

-- y: the first i values of x moved together, so that a value of base becomes `farthest`
pub record Shifted (base : ℕ) (x y : List ℕ) (i : ℕ) : Type 0 where
  pub long : length y ≡ node_room
  pub moved : (k : ℕ) → k < i → at y k + base ≡ at x k + farthest
  pub rest : (k : ℕ) → i ≤ k → at y k ≡ at x k
