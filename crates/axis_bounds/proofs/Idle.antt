-- In a solved graph the slots that limit the nets' ends carry nothing.
use Prim.Native.Nat.{ℕ, suc, ◌+◌, ◌-◌, ◌≤◌, ◌<◌}
use mathlib.Core.Path.{◌≡◌, refl, sym, ap, ◌∙◌}
use mathlib.Core.List.{List}
use native.Mathlib.Decide.{dec_lt}
use native.Mathlib.Omega.{arith}
use lib.ListN.{length, get_or-eq_default}
use Rattle.flow_laws.specs.Flow.{weigh, Tight}
use Rattle.flow_laws.proofs.Duality.{exchange, tight_at_least, idle_in, idle_out}
use Rattle.axis_bounds.specs.declared.Slot.{Slot}
use Rattle.axis_bounds.specs.Axis.{Axis, no_slot, WellFormed}
use Rattle.axis_bounds.specs.Listed.{listed, slot_at, tails, heads, pluses, minuses, amount, hi_node, lo_node, node_count, weight_of}
use Rattle.axis_bounds.specs.Answer.{supply, demand}
use Rattle.axis_bounds.specs.Graph.{far, graph_slots, upper, lower, GraphSolved}
use Rattle.axis_bounds.proofs.Counts.{length_graph, length_ends}
use Rattle.axis_bounds.proofs.Members.{Each, slot_right}
use Rattle.axis_bounds.proofs.Sorts.{end_part, graph_is, ends_each, OfEnds, graph_each, OfMacros, graph_macros}
use Rattle.axis_bounds.proofs.Limits.{KeptBy, holds_each, graph_tails, graph_heads, mac_from, mac_to}
use Rattle.axis_bounds.proofs.Fronts.{node_none, node_some}

-- a slot past the end is the slot that asks nothing
pub past_end : (ss : List Slot) (s : ℕ) → length ss ≤ s → slot_at ss s ≡ no_slot
past_end ss s l = get_or-eq_default ss no_slot l

module _ (a : Axis) where
  -- values times what leaves or enters at the nets' ends
  pub upper_is : (x : List ℕ) → weigh (amount x) (demand a) (node_count a) ≡ upper a x
  unfolding upper
  upper_is x = exchange (hi_node (length a.sizes)) (weight_of a) (amount x) (length a.nets) (node_count a) (record { lt = λ s l. omega arith })

  pub lower_is : (x : List ℕ) → weigh (amount x) (supply a) (node_count a) ≡ lower a x
  unfolding lower
  lower_is x = exchange (lo_node (length a.sizes)) (weight_of a) (amount x) (length a.nets) (node_count a) (record { lt = λ s l. omega arith })

  module _ (fine : WellFormed a) (j : ℕ) (l : j < length a.nets) where
    -- more leaves at hi than enters there, and more enters at lo than leaves there
    hi_demand : supply a (hi_node (length a.sizes) j) < demand a (hi_node (length a.sizes) j)
    hi_demand =
        let p = node_none (lo_node (length a.sizes)) (weight_of a) (length a.nets) (hi_node (length a.sizes) j) (λ s k e. omega arith) in
        let q = node_some (hi_node (length a.sizes)) (weight_of a) (length a.nets) (hi_node (length a.sizes) j) j l refl in
        let w = (fine.net j l).low in
        omega arith

    lo_supply : demand a (lo_node (length a.sizes) j) < supply a (lo_node (length a.sizes) j)
    lo_supply =
        let p = node_none (hi_node (length a.sizes)) (weight_of a) (length a.nets) (lo_node (length a.sizes) j) (λ s k e. omega arith) in
        let q = node_some (lo_node (length a.sizes)) (weight_of a) (length a.nets) (lo_node (length a.sizes) j) j l refl in
        let w = (fine.net j l).low in
        omega arith

    module _ (x : List ℕ) (m : OfMacros a (KeptBy x)) where
      -- a tight slot into hi keeps it below its limit
      abbrev HiNear : Slot → Type 0
      HiNear e = e.head ≡ hi_node (length a.sizes) j → amount x e.tail + e.plus ≡ amount x e.head + e.minus → amount x (hi_node (length a.sizes) j) < amount x 0 + far

      hi_near : Each HiNear (graph_slots a)
      hi_near =
          graph_each a HiNear
          (record { rise = λ i q e t. absurd (omega arith); fall = λ i q e t. absurd (omega arith); pair = λ i q e t. let h = (fine.pair i q).head in absurd (omega arith) })
          (record {
            high = λ i q k r e t.
                let s : amount x (hi_node (length a.sizes) i) ≡ amount x (hi_node (length a.sizes) j) = ap (amount x) e in
                let f = (fine.net i q).pin k r in let u = f.up in let n = mac_to a fine x m _ f.node in let d = fine.side in omega arith;
            low = λ i q k r e t. let n = ((fine.net i q).pin k r).node in absurd (omega arith);
          })
          (record { high = λ i q e t. absurd (omega arith); low = λ i q e t. absurd (omega arith) })

      -- a tight slot out of lo keeps it above its limit
      abbrev LoNear : Slot → Type 0
      LoNear e = e.tail ≡ lo_node (length a.sizes) j → amount x e.tail + e.plus ≡ amount x e.head + e.minus → amount x 0 < amount x (lo_node (length a.sizes) j) + far

      lo_near : Each LoNear (graph_slots a)
      lo_near =
          graph_each a LoNear
          (record { rise = λ i q e t. absurd (omega arith); fall = λ i q e t. absurd (omega arith); pair = λ i q e t. let h = (fine.pair i q).tail in absurd (omega arith) })
          (record {
            high = λ i q k r e t. let n = ((fine.net i q).pin k r).node in absurd (omega arith);
            low = λ i q k r e t.
                let s : amount x (lo_node (length a.sizes) i) ≡ amount x (lo_node (length a.sizes) j) = ap (amount x) e in
                let f = (fine.net i q).pin k r in let n = mac_from a fine x m _ f.node in let d = fine.base in omega arith;
          })
          (record { high = λ i q e t. absurd (omega arith); low = λ i q e t. absurd (omega arith) })

module _ (a : Axis) (fine : WellFormed a) (x f : List ℕ) (g : GraphSolved a x f) where
  -- every slot that carries is tight
  pub solved_tight : Tight (tails (graph_slots a)) (heads (graph_slots a)) (pluses (graph_slots a)) (minuses (graph_slots a)) (amount f) (amount x) (length (graph_slots a))
  solved_tight =
      tight_at_least (tails (graph_slots a)) (heads (graph_slots a)) (pluses (graph_slots a)) (minuses (graph_slots a)) (amount f) (amount x) (supply a) (demand a) (length (graph_slots a)) (node_count a) (graph_tails a fine) (graph_heads a fine) g.balance g.holds
      (let p = upper_is a x in let q = lower_is a x in let r = g.reaches in omega arith)

  -- slot s, being e, carries nothing
  abbrev CarriesNone : Slot → Type 0
  CarriesNone e = (s : ℕ) → s < length (graph_slots a) → slot_at (graph_slots a) s ≡ e → amount f s ≡ 0

  end_slots_law : OfEnds a CarriesNone
  end_slots_law =
      let m = graph_macros a _ (holds_each _ _ g.holds) in
      record {
        high = λ j l s q e.
            let u = ap (λ (t : Slot). t.plus) e in let v = ap (λ (t : Slot). t.minus) e in let w = ap (λ (t : Slot). amount x t.head) e in
            idle_out (tails (graph_slots a)) (heads (graph_slots a)) (pluses (graph_slots a)) (minuses (graph_slots a)) (amount f) (amount x) (supply a) (demand a) (length (graph_slots a)) (node_count a) (hi_node (length a.sizes) j) s
            g.balance solved_tight (omega arith) (hi_demand a fine j l) q (ap (λ (t : Slot). t.tail) e) (λ t k h b. let r = (hi_near a fine j l x m).at t k h b in omega arith);
        low = λ j l s q e.
            let u = ap (λ (t : Slot). t.plus) e in let v = ap (λ (t : Slot). t.minus) e in let w = ap (λ (t : Slot). amount x t.tail) e in
            idle_in (tails (graph_slots a)) (heads (graph_slots a)) (pluses (graph_slots a)) (minuses (graph_slots a)) (amount f) (amount x) (supply a) (demand a) (length (graph_slots a)) (node_count a) (lo_node (length a.sizes) j) s
            g.balance solved_tight (omega arith) (lo_supply a fine j l) q (ap (λ (t : Slot). t.head) e) (λ t k h b. let r = (lo_near a fine j l x m).at t k h b in omega arith);
      }

  -- past the listed slots nothing is carried
  pub past_listed : (s : ℕ) → length (listed a) ≤ s → amount f s ≡ 0
  past_listed s l = by (dec_lt s (length (graph_slots a)))
    where
      by : Dec (s < length (graph_slots a)) → amount f s ≡ 0
      by (yes q) =
          let c = length_graph a in
          let d = length_ends (suc (length a.sizes)) a.nets in
          let e = ap (λ (t : List Slot). slot_at t s) (graph_is a) ∙ slot_right (listed a) (end_part a) s l in
          (ends_each a CarriesNone end_slots_law).at (s - length (listed a)) (omega arith) s q e
      by (no q) =
          let e = past_end (graph_slots a) s (omega arith) in
          g.idle s (ap (λ (t : Slot). t.tail) e ∙ sym (ap (λ (t : Slot). t.head) e))
