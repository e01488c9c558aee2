-- Amounts on bounds and entries, and what they show of the length of all coordinates that keep the bounds.
use Rattle.std.specs.Prelude.{ℕ, ◌+◌, ◌*◌, ◌<◌, ◌≤◌, ◌≡◌, List}
use Rattle.num_laws.specs.Sum.{sum}
use Rattle.flow_laws.specs.Flow.{at_node, weigh, Balance}
use Rattle.axis_bounds.specs.Axis.{length_on}
use Rattle.half_arrays.specs.Arrays.{raised, from_node, to_node, bound_at, entry_count, node_at, most_at, least_at, net_at, weight_at, axis_on}

-- what the entries' amounts f give at a node, and on a net
abbrev pub at_macro : List ℕ → (ℕ → ℕ) → ℕ → ℕ
at_macro tab f k = at_node (node_at tab) f (entry_count tab) k

abbrev pub on_net : List ℕ → (ℕ → ℕ) → ℕ → ℕ
on_net tab f j = at_node (net_at tab) f (entry_count tab) j

-- f on the bounds, h from entries to their net's hi, l from its lo to entries

-- they balance at every node
unfoldable pub Balances : List ℕ → (ℕ → ℕ) → (ℕ → ℕ) → (ℕ → ℕ) → Type 0
Balances tab f h l = Balance from_node to_node f (at_macro tab l) (at_macro tab h) 81 9

-- they give each net its weight at hi and at lo
pub record GivesWeights (tab : List ℕ) (h l : ℕ → ℕ) : Type 0 where
  pub high : (j : ℕ) → j < 32 → on_net tab h j ≡ weight_at tab j
  pub low : (j : ℕ) → j < 32 → on_net tab l j ≡ weight_at tab j

pub record Passes (tab : List ℕ) (f h l : ℕ → ℕ) : Type 0 where
  pub balance : Balances tab f h l
  pub weights : GivesWeights tab h l

-- their worth is what `gained` has above `lost`
unfoldable pub gained : List ℕ → List ℕ → (ℕ → ℕ) → (ℕ → ℕ) → ℕ
gained tab arcs f h = weigh (most_at tab) h (entry_count tab) + weigh (bound_at arcs) f 81

unfoldable pub lost : List ℕ → (ℕ → ℕ) → (ℕ → ℕ) → ℕ
lost tab f l = weigh (least_at tab) l (entry_count tab) + raised * sum f 81

-- they are worth at least the length of the coordinates y
abbrev pub WorthLength : List ℕ → List ℕ → (ℕ → ℕ) → (ℕ → ℕ) → (ℕ → ℕ) → List ℕ → Type 0
WorthLength tab arcs f h l y = lost tab f l + length_on (axis_on tab arcs) y ≤ gained tab arcs f h
