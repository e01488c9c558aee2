-- The graph that the solver works on: the listed slots, and two more for each net so that every value has a limit; these carry nothing in the end.
use Rattle.std.specs.Prelude.{ℕ, suc, ◌+◌, ◌≤◌, ◌<◌, ◌≡◌, List, [], ◌∷◌, ◌++◌, length, get_or}
use Rattle.num_laws.specs.Sum.{sum}
use Rattle.flow_laws.specs.Flow.{weigh, Bounds, Balance}
use Rattle.axis_bounds.specs.declared.Slot.{Slot}
use Rattle.axis_bounds.specs.Axis.{Axis, NetOn, no_slot}
use Rattle.axis_bounds.specs.Listed.{slot, die_slots, listed, slot_at, tails, heads, pluses, minuses, amount, hi_node, lo_node, node_count, weight_of}
use Rattle.axis_bounds.specs.Answer.{supply, demand}

-- hi is at most `far` above the die corner, lo at most `far` below it
abbrev pub far : ℕ
far = 32768

unfoldable pub end_slots : ℕ → List NetOn → List Slot
end_slots h [] = []
end_slots h (t ∷ ts) = slot h 0 0 far ∷ slot 0 (suc h) 0 far ∷ end_slots (suc (suc h)) ts

unfoldable pub graph_slots : Axis → List Slot
graph_slots a = listed a ++ end_slots (suc (length a.sizes)) a.nets

-- the slots between the die corner and the macros: those of the macros and of the pairs
unfoldable pub macro_slots : Axis → List Slot
macro_slots a = die_slots a.side 1 a.sizes ++ a.pairs

-- the values keep the bound of every slot
abbrev pub Holds : List Slot → List ℕ → Type 0
Holds ss x = Bounds (tails ss) (heads ss) (pluses ss) (minuses ss) (amount x) (length ss)

-- the weighed values of the nets' hi, and of their lo
unfoldable pub upper : Axis → List ℕ → ℕ
upper a x = weigh (λ j. amount x (hi_node (length a.sizes) j)) (weight_of a) (length a.nets)

unfoldable pub lower : Axis → List ℕ → ℕ
lower a x = weigh (λ j. amount x (lo_node (length a.sizes) j)) (weight_of a) (length a.nets)

-- what solving the graph gives: values and amounts
pub record GraphSolved (a : Axis) (x f : List ℕ) : Type 0 where
  pub holds : Holds (graph_slots a) x
  pub most : (s : ℕ) → amount f s ≤ sum (weight_of a) (length a.nets)
  pub idle : (s : ℕ) → tails (graph_slots a) s ≡ heads (graph_slots a) s → amount f s ≡ 0
  pub balance : Balance (tails (graph_slots a)) (heads (graph_slots a)) (amount f) (supply a) (demand a) (length (graph_slots a)) (node_count a)
  pub reaches : weigh (pluses (graph_slots a)) (amount f) (length (graph_slots a)) + lower a x
      ≡ weigh (minuses (graph_slots a)) (amount f) (length (graph_slots a)) + upper a x
  pub least : (z : List ℕ) → Holds (graph_slots a) z → upper a x + lower a z ≤ upper a z + lower a x
  pub smallest : (z : List ℕ) → Holds (graph_slots a) z → upper a z + lower a x ≤ upper a x + lower a z → (k : ℕ) → k ≤ length a.sizes
      → amount x k + amount z 0 ≤ amount z k + amount x 0

-- a closed chain on the slots of macros and pairs whose sum is above 0
pub record GraphRefuted (a : Axis) (f : List ℕ) : Type 0 where
  pub few : (s : ℕ) → amount f s ≤ 1
  pub idle : (s : ℕ) → slot_at (macro_slots a) s ≡ no_slot → amount f s ≡ 0
  pub balance : Balance (tails (macro_slots a)) (heads (macro_slots a)) (amount f) (λ k. 0) (λ k. 0) (length (macro_slots a)) (suc (length a.sizes))
  pub more : weigh (minuses (macro_slots a)) (amount f) (length (macro_slots a)) < weigh (pluses (macro_slots a)) (amount f) (length (macro_slots a))

-- the macros' coordinates, from the values of the nodes
pub record Coordinates (n : ℕ) (x z : List ℕ) : Type 0 where
  pub long : length z ≡ n
  pub at : (i : ℕ) → i < n → get_or z i 0 + amount x 0 ≡ amount x (suc i)
