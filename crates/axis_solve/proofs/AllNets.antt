-- The flows of all nets, one after the other.
use mathlib.Core.Path.{subst, ◌∙◌}
use mathlib.Core.List.{List}
use Prim.Native.Nat.{ℕ, suc, ◌+◌, ◌≤◌, ◌<◌}
use native.Mathlib.Numerals.{add-one}
use native.Mathlib.Nat.{le_antisymm}
use native.Mathlib.Omega.{arith}
use lib.ListN.{replicate}
use Rattle.num_laws.specs.Sum.{sum}
use Rattle.num_laws.proofs.Sums.{sum_grows}
use Rattle.flow_laws.specs.Flow.{at_node}
use Rattle.axis_graph.specs.declared.Graph.{Graph}
use Rattle.axis_graph.specs.declared.Span.{Span}
use Rattle.axis_graph.specs.Limits.{slot_room}
use Rattle.axis_bounds.specs.Listed.{tails, heads}
use Rattle.axis_solve.specs.Augment.{Spare, Augmented}
use Rattle.axis_solve.specs.Admit.{Feasible}
use Rattle.axis_graph.specs.Solved.{los, his, weights, Nets}
use Rattle.axis_solve.specs.Flows.{Flows}
use Rattle.axis_graph.proofs.Zeros.{none_at, zero_node}
use Rattle.axis_solve.proofs.Zeros.{zero_sound}

module _ (g : Graph) (nets : List Span) where
  pub flows_none : (x : List ℕ) → Feasible g x → Flows g nets 0 x (replicate slot_room 0)
  unfolding at_node sum
  flows_none x r =
      record { sound = zero_sound g x r; most = λ s. let a = none_at s in omega arith; idle = λ s e. none_at s; balance = record { eq = λ k l. let a = zero_node (heads g.slots) g.m k in let b = zero_node (tails g.slots) g.m k in omega arith } }

  module _ (j : ℕ) (x f : List ℕ) (i : Flows g nets j x f) where
    module _ (c : ℕ) (ns : Nets g nets c) (l : j < c) where
      pub flows_spare : Spare f (weights nets j)
      unfolding sum
      flows_spare = record { most = λ s. let a = i.most s in let b = sum_grows (weights nets) (suc j) c l in let t = ns.total in omega arith }

    pub flows_more : (x' f' : List ℕ) → Augmented g f (los nets j) (his nets j) (weights nets j) x' f' → Flows g nets (j + 1) x' f'
    unfolding sum at_node
    flows_more x' f' d =
        rw add-one (record {
          sound = d.sound;
          most = λ s. let a = d.carried.most s in let b = i.most s in omega arith;
          idle = λ s e. d.carried.idle s e ∙ i.idle s e;
          balance = record { eq = λ k l. (d.carried.balance _ _ i.balance).eq k l };
        })

    pub flows_all : (c : ℕ) → j ≤ c → c ≤ j → Flows g nets c x f
    flows_all c a b = subst (λ (k : ℕ). Flows g nets k x f) (le_antisymm a b) i
