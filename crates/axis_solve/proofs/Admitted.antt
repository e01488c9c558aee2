-- The pairs' bounds: what adding them one after the other starts from, and what its refusal says.
use mathlib.Core.Path.{◌≡◌, sym, ap, subst, ◌∙◌}
use mathlib.Core.List.{List}
use Prim.Native.Nat.{ℕ, suc, ◌+◌, ◌*◌, ◌≤◌, ◌<◌}
use native.Mathlib.Decide.{dec_lt}
use native.Mathlib.Omega.{arith}
use lib.ListN.{length, get_or, replicate, get_or-replicate, length-replicate, get_or-append, get_or-eq_default}
use Rattle.axis_bounds.specs.declared.Slot.{Slot}
use Rattle.axis_bounds.specs.Axis.{Axis, no_slot, WellFormed as FineAxis}
use Rattle.axis_bounds.specs.Listed.{slot_at, tails, heads}
use Rattle.axis_bounds.specs.Graph.{macro_slots, Holds as HoldsList}
use Rattle.axis_bounds.proofs.Counts.{length_die, length_macros}
use Rattle.axis_bounds.proofs.Sorts.{OfMacros, macros_each}
use Rattle.axis_bounds.proofs.Limits.{KeptBy, each_holds, macro_fine}
use Rattle.axis_bounds.proofs.Idle.{past_end}
use Rattle.axis_graph.specs.Limits.{node_room, farthest, low_most}
use Rattle.axis_graph.specs.Graph.{at, SlotWithin, Net}
use Rattle.axis_solve.specs.Admit.{Feasible, Wanted}
use Rattle.axis_graph.specs.Build.{slots_from, die_graph}
use Rattle.axis_graph.proofs.Graphs.{length_from, slots_at, array_holds, bare, dies, bare_is, macros_are, few_macros, few_dies, die_near, die_net}

-- all values at one place
abbrev pub even : List ℕ
even = replicate node_room farthest

even_at : (k : ℕ) → k < node_room → at even k ≡ farthest
even_at k l = get_or-replicate node_room k farthest 0 l

even_low : (k : ℕ) → at even k ≤ low_most
even_low k = by (dec_lt k node_room)
  where
    by : Dec (k < node_room) → at even k ≤ low_most
    by (yes l) = rw (even_at k l) (omega arith)
    by (no n) = rw (get_or-eq_default even 0 {n = k} (let e = length-replicate node_room farthest in omega arith)) (omega arith)

module _ (b : Axis) (fine : FineAxis b) where
  -- no macro is larger than the die: values at one place keep the macros' slots
  pub even_free : ((i : ℕ) → i < length b.sizes → get_or b.sizes i 0 ≤ b.side) → Feasible (die_graph b) even
  even_free fits =
      record {
        holds = array_holds (dies b fine) (few_dies b fine) (length (macro_slots b)) even (subst (λ (ss : List Slot). HoldsList ss even) (bare_is b fine) (each_holds (macro_slots (bare b)) even (macros_each (bare b) (KeptBy even) kept)));
        low = even_low;
        near = die_near b fine;
      }
    where
      kept : OfMacros (bare b) (KeptBy even)
      kept =
          let m = fine.macs in
          record {
            rise = λ i l. record { le = let p = even_at 0 (omega arith) in let q = even_at (suc i) (omega arith) in omega arith };
            fall = λ i l. record { le = let p = even_at 0 (omega arith) in let q = even_at (suc i) (omega arith) in let r = fits i l in omega arith };
            pair = λ j l. absurd (omega arith);
          }

  pub pairs_wanted : (from to : ℕ) → from ≡ 2 * length b.sizes → to ≡ from + length b.pairs → Wanted (die_graph b) (slots_from (macro_slots b)) from to
  pairs_wanted from to ef et =
      record {
        end = let e = length_macros b in omega arith;
        long = length_from (dies b fine);
        long_full = length_from (macro_slots b);
        fresh = λ k p q. slots_at (dies b fine) (few_dies b fine) k ∙ past_end (dies b fine) k (let e = length_die b.side 1 b.sizes in omega arith);
        below = λ k p. slots_at (dies b fine) (few_dies b fine) k ∙ sym (slots_at (macro_slots b) (few_macros b fine) k ∙ ap (λ (ss : List Slot). slot_at ss k) (macros_are b fine) ∙ get_or-append (dies b fine) b.pairs no_slot k (let e = length_die b.side 1 b.sizes in omega arith));
        past = λ k p.
            let e = length_macros b in
            let d = length_die b.side 1 b.sizes in
            slots_at (dies b fine) (few_dies b fine) k ∙ past_end (dies b fine) k (omega arith) ∙ sym (slots_at (macro_slots b) (few_macros b fine) k ∙ past_end (macro_slots b) k (omega arith));
        fine = λ k p q. subst SlotWithin (sym (slots_at (macro_slots b) (few_macros b fine) k)) (fine_pair k (let e = length_macros b in omega arith));
        net = λ k p q. subst (λ (u : Slot). Net (die_graph b) u.head u.tail) (sym (slots_at (macro_slots b) (few_macros b fine) k)) (net_pair k (let e = length_macros b in omega arith));
      }
    where
      fine_pair : (k : ℕ) → k < length (macro_slots b) → SlotWithin (slot_at (macro_slots b) k)
      fine_pair k l =
          let f = (macro_fine b fine).at k l in
          let t = f.tail in
          let h = f.head in
          let m = fine.macs in
          record { tail = omega arith; head = omega arith; plus = f.plus; minus = f.minus }

      net_pair : (k : ℕ) → k < length (macro_slots b) → Net (die_graph b) (heads (macro_slots b) k) (tails (macro_slots b) k)
      net_pair k l =
          let f = (macro_fine b fine).at k l in
          let t = f.tail in
          let h = f.head in
          die_net b fine (heads (macro_slots b) k) (tails (macro_slots b) k) (omega arith) (omega arith)
