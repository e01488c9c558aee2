-- What a chain on the slots of macros and pairs says of the axis.
use mathlib.Core.Path.{subst, ◌∙◌}
use mathlib.Core.List.{List}
use Prim.Native.Nat.{ℕ, suc, ◌<◌}
use lib.ListN.{length}
use Rattle.flow_laws.specs.Flow.{weigh, Balance}
use Rattle.axis_bounds.specs.declared.Slot.{Slot}
use Rattle.axis_bounds.specs.Axis.{Axis, WellFormed as FineAxis}
use Rattle.axis_bounds.specs.Graph.{macro_slots, GraphRefuted}
use Rattle.axis_graph.specs.Graph.{at}
use Rattle.axis_graph.specs.Solved.{Refuted}
use Rattle.axis_graph.specs.Build.{macro_graph}
use Rattle.axis_graph.proofs.Graphs.{slots_at, slots_same, few_macros}

module _ (b : Axis) (fine : FineAxis b) where
  -- refused: a chain on the slots of macros and pairs
  pub pairs_refuted : (f : List ℕ) → Refuted (macro_graph b) f → GraphRefuted b f
  pairs_refuted f r =
      let e = slots_same (macro_slots b) (few_macros b fine) in
      record {
        few = r.few;
        idle = λ s z. r.idle s (slots_at (macro_slots b) (few_macros b fine) s ∙ z);
        balance = subst (λ (u : ℕ → Slot). Balance (λ s. (u s).tail) (λ s. (u s).head) (at f) (λ k. 0) (λ k. 0) (length (macro_slots b)) (suc (length b.sizes))) e r.balance;
        more = subst (λ (u : ℕ → Slot). weigh (λ s. (u s).minus) (at f) (length (macro_slots b)) < weigh (λ s. (u s).plus) (at f) (length (macro_slots b))) e r.more;
      }
