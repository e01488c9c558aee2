-- Any amounts on the slots of an axis, against any coordinates that keep it: the sum of a × amount is at most the length where the
-- amounts are a flow (`flow_most`), and at most 0 where they are closed (`closed_most`).
use Prim.Native.Nat.{ℕ, ◌+◌, ◌≤◌}
use mathlib.Core.Path.{subst}
use mathlib.Core.List.{List}
use native.Mathlib.Omega.{arith}
use lib.ListN.{length}
use Rattle.flow_laws.specs.Flow.{weigh, Balance}
use Rattle.flow_laws.proofs.Duality.{weak}
use Rattle.axis_bounds.specs.declared.Slot.{Slot}
use Rattle.axis_bounds.specs.Axis.{Axis, Keeps, length_on, WellFormed}
use Rattle.axis_bounds.specs.Listed.{listed, tails, heads, pluses, minuses, amount, node_count}
use Rattle.axis_bounds.specs.Answer.{supply, demand}
use Rattle.axis_bounds.specs.Graph.{Holds}
use Rattle.axis_bounds.proofs.Members.{Each, each_left}
use Rattle.axis_bounds.proofs.Sorts.{end_part, graph_is}
use Rattle.axis_bounds.proofs.Limits.{KeptBy, holds_each, each_holds, listed_tails, listed_heads}
use Rattle.axis_bounds.proofs.Values.{graph_values, values_length, graph_values_law}
use Rattle.axis_bounds.proofs.Idle.{upper_is, lower_is}

module _ (a : Axis) (fine : WellFormed a) (y : List ℕ) (kp : Keeps a y) (f : ℕ → ℕ) where
  abbrev hs : List Slot
  hs = listed a

  -- the values of the nodes: the macros at their coordinates, each net's hi and lo at its greatest and its least place
  abbrev x : List ℕ
  x = graph_values a y

  listed_values : Holds hs x
  listed_values = each_holds hs x (each_left (KeptBy x) hs (end_part a) (subst (Each (KeptBy x)) (graph_is a) (holds_each _ x (graph_values_law a fine y kp))))

  weighed : (sup dem : ℕ → ℕ) → Balance (tails hs) (heads hs) f sup dem (length hs) (node_count a) →
      weigh (pluses hs) f (length hs) + weigh (amount x) sup (node_count a) ≤ weigh (minuses hs) f (length hs) + weigh (amount x) dem (node_count a)
  weighed sup dem b =
      weak (tails hs) (heads hs) (pluses hs) (minuses hs) f (amount x) sup dem (length hs) (node_count a) (listed_tails a fine) (listed_heads a fine) b listed_values

  pub flow_most : Balance (tails hs) (heads hs) f (supply a) (demand a) (length hs) (node_count a) → weigh (pluses hs) f (length hs) ≤ weigh (minuses hs) f (length hs) + length_on a y
  flow_most b =
      let p = weighed (supply a) (demand a) b in
      let u = upper_is a x in let l = lower_is a x in
      let e = values_length a y kp.long in
      omega arith

  pub closed_most : Balance (tails hs) (heads hs) f (λ k. 0) (λ k. 0) (length hs) (node_count a) → weigh (pluses hs) f (length hs) ≤ weigh (minuses hs) f (length hs)
  closed_most b = let p = weighed (λ k. 0) (λ k. 0) b in omega arith
