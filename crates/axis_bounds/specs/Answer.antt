-- What solving an axis promises: values that keep the bounds, least in length and of those the smallest, with a flow of that length; or a closed
-- chain that no values keep.
use Rattle.std.specs.Prelude.{ℕ, ◌+◌, ◌≤◌, ◌<◌, ◌≡◌, List, length, get_or}
use Rattle.flow_laws.specs.Flow.{at_node, weigh, Balance}
use Rattle.axis_bounds.specs.Axis.{Axis, Keeps, length_on, no_slot}
use Rattle.axis_bounds.specs.Listed.{listed, slot_at, tails, heads, pluses, minuses, amount, hi_node, lo_node, node_count, weight_of}

-- what enters the axis at a node: the weight at a net's lo; and what leaves it: the weight at a net's hi
abbrev pub supply : Axis → ℕ → ℕ
supply a k = at_node (lo_node (length a.sizes)) (weight_of a) (length a.nets) k

abbrev pub demand : Axis → ℕ → ℕ
demand a k = at_node (hi_node (length a.sizes)) (weight_of a) (length a.nets) k

-- amounts on the listed slots, and on no others
pub record OnSlots (a : Axis) (f : List ℕ) : Type 0 where
  pub idle : (s : ℕ) → slot_at (listed a) s ≡ no_slot → amount f s ≡ 0
  pub past : (s : ℕ) → length (listed a) ≤ s → amount f s ≡ 0

-- a flow from each net's lo to its hi whose sum of a × amount is l
pub record FlowOn (a : Axis) (f : List ℕ) (l : ℕ) : Type 0 where
  pub on : OnSlots a f
  pub most : (s : ℕ) → amount f s ≤ 32000
  pub balance : Balance (tails (listed a)) (heads (listed a)) (amount f) (supply a) (demand a) (length (listed a)) (node_count a)
  pub reaches : weigh (pluses (listed a)) (amount f) (length (listed a)) ≡ weigh (minuses (listed a)) (amount f) (length (listed a)) + l

-- a closed chain whose sum of a × amount is above 0
pub record ChainOn (a : Axis) (f : List ℕ) : Type 0 where
  pub on : OnSlots a f
  pub few : (s : ℕ) → amount f s ≤ 1
  pub balance : Balance (tails (listed a)) (heads (listed a)) (amount f) (λ k. 0) (λ k. 0) (length (listed a)) (node_count a)
  pub more : weigh (minuses (listed a)) (amount f) (length (listed a)) < weigh (pluses (listed a)) (amount f) (length (listed a))

pub record LeastOn (a : Axis) (z : List ℕ) : Type 0 where
  pub keeps : Keeps a z
  pub least : (y : List ℕ) → Keeps a y → length_on a z ≤ length_on a y
  pub smallest : (y : List ℕ) → Keeps a y → length_on a y ≡ length_on a z → (i : ℕ) → get_or z i 0 ≤ get_or y i 0

pub record SolvedOn (a : Axis) (z f : List ℕ) : Type 0 where
  pub least : LeastOn a z
  pub flow : FlowOn a f (length_on a z)

pub record UnsolvedOn (a : Axis) (f : List ℕ) : Type 0 where
  pub none : (y : List ℕ) → Keeps a y → ⊥
  pub chain : ChainOn a f
