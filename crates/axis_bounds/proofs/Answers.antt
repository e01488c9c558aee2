-- What solving the graph of an axis says of the axis: a least placement with its flow, or a chain that no placement keeps.
use Prim.Native.Nat.{ℕ, suc, ◌+◌, ◌*◌, ◌≤◌, ◌<◌}
use mathlib.Core.Path.{◌≡◌, sym, ap, ◌∙◌}
use mathlib.Core.List.{List}
use native.Mathlib.Decide.{dec_lt, dec_le}
use native.Mathlib.Omega.{arith}
use lib.ListN.{length, get_or, get_or-eq_default}
use Rattle.num_laws.specs.Sum.{sum}
use Rattle.num_laws.proofs.Terms.{sum_most_law}
use Rattle.flow_laws.specs.Flow.{at_node, Balance}
use Rattle.flow_laws.proofs.Duality.{no_values}
use Rattle.axis_bounds.specs.declared.Slot.{Slot}
use Rattle.axis_bounds.specs.Axis.{Axis, no_slot, Keeps, length_on, WellFormed}
use Rattle.axis_bounds.specs.Listed.{listed, slot_at, tails, heads, pluses, minuses, amount, node_count, weight_of}
use Rattle.axis_bounds.specs.Answer.{supply, demand, OnSlots, LeastOn, SolvedOn, UnsolvedOn}
use Rattle.axis_bounds.specs.Graph.{graph_slots, macro_slots, upper, lower, GraphSolved, GraphRefuted, Coordinates}
use Rattle.axis_bounds.proofs.Limits.{macro_tails, macro_heads}
use Rattle.axis_bounds.proofs.Values.{graph_values, macro_values, value_of, values_length, macro_values_law, graph_values_law}
use Rattle.axis_bounds.proofs.Coordinates.{graph_keeps, length_within}
use Rattle.axis_bounds.proofs.Fronts.{listed_front, macros_front, weigh_front, balance_front, balance_whole, node_none}
use Rattle.axis_bounds.proofs.Idle.{past_end, past_listed}
use Rattle.axis_bounds.proofs.Oversize.{oversize_refuted}

module _ (a : Axis) (fine : WellFormed a) where
  -- the weights of all nets
  pub weights_most : sum (weight_of a) (length a.nets) ≤ 32000
  weights_most = let p = sum_most_law (weight_of a) 1000 (length a.nets) (λ j l. (fine.net j l).high) in let q = fine.nets in omega arith

  module _ (x f z : List ℕ) (g : GraphSolved a x f) (c : Coordinates (length a.sizes) x z) where
    keeps_z : Keeps a z
    keeps_z = graph_keeps a fine x z c g.holds

    -- the weighed values of the nets' ends differ by the length of the answer
    ends_apart : upper a x ≡ lower a x + length_on a z
    ends_apart =
        let p = length_within a fine x z c g.holds in
        let q = g.least (graph_values a z) (graph_values_law a fine z keeps_z) in
        let r = values_length a z keeps_z.long in
        omega arith

    answer_least : LeastOn a z
    answer_least =
        record {
          keeps = keeps_z;
          least = λ y k.
              let p = g.least (graph_values a y) (graph_values_law a fine y k) in
              let q = values_length a y k.long in
              let r = ends_apart in
              omega arith;
          smallest = λ y k e i. by y k e i (dec_lt i (length a.sizes));
        }
      where
        by : (y : List ℕ) → Keeps a y → length_on a y ≡ length_on a z → (i : ℕ) → Dec (i < length a.sizes) → get_or z i 0 ≤ get_or y i 0
        by y k e i (yes l) =
            let q = values_length a y k.long in
            let r = ends_apart in
            let p = g.smallest (graph_values a y) (graph_values_law a fine y k) (omega arith) (suc i) l in
            let s = value_of a y k.long 0 (omega arith) in
            let t = value_of a y k.long (suc i) l in
            let u = c.at i l in
            omega arith
        by y k e i (no l) = let n = c.long in rw (get_or-eq_default z 0 {n = i} (omega arith)) (omega arith)

    answer_on : OnSlots a f
    answer_on = record { idle = λ s e. by s e (dec_lt s (length (listed a))); past = past_listed a fine x f g }
      where
        by : (s : ℕ) → slot_at (listed a) s ≡ no_slot → Dec (s < length (listed a)) → amount f s ≡ 0
        by s e (yes l) =
            let q = (listed_front a).same s l ∙ e in
            g.idle s (ap (λ (t : Slot). t.tail) q ∙ sym (ap (λ (t : Slot). t.head) q))
        by s e (no l) = past_listed a fine x f g s (omega arith)

    -- a solved graph gives the least placement, of those the smallest, and a flow of its length
    pub solved_on : SolvedOn a z f
    solved_on =
        let past = past_listed a fine x f g in
        record {
          least = answer_least;
          flow = record {
            on = answer_on;
            most = λ s. let p = g.most s in let q = weights_most in omega arith;
            balance = balance_front (listed a) (graph_slots a) (listed_front a) (amount f) past (supply a) (demand a) (node_count a) g.balance;
            reaches =
                let p = weigh_front (listed a) (graph_slots a) (listed_front a) (amount f) past (λ e. e.plus) in
                let q = weigh_front (listed a) (graph_slots a) (listed_front a) (amount f) past (λ e. e.minus) in
                let r = g.reaches in
                let s = ends_apart in
                omega arith;
          };
        }

  module _ (f : List ℕ) (g : GraphRefuted a f) where
    past_macros : (s : ℕ) → length (macro_slots a) ≤ s → amount f s ≡ 0
    past_macros s l = g.idle s (past_end (macro_slots a) s l)

    chain_on : OnSlots a f
    chain_on = record { idle = λ s e. by s e (dec_lt s (length (macro_slots a))); past = λ s l. let p = (macros_front a).short in past_macros s (omega arith) }
      where
        by : (s : ℕ) → slot_at (listed a) s ≡ no_slot → Dec (s < length (macro_slots a)) → amount f s ≡ 0
        by s e (yes l) = g.idle s (sym ((macros_front a).same s l) ∙ e)
        by s e (no l) = past_macros s (omega arith)

    chain_balance : Balance (tails (macro_slots a)) (heads (macro_slots a)) (amount f) (λ k. 0) (λ k. 0) (length (macro_slots a)) (node_count a)
    chain_balance = record { eq = λ k l. by k (dec_le k (length a.sizes)) }
      where
        by : (k : ℕ) → Dec (k ≤ length a.sizes) → at_node (heads (macro_slots a)) (amount f) (length (macro_slots a)) k + 0 ≡ at_node (tails (macro_slots a)) (amount f) (length (macro_slots a)) k + 0
        by k (yes l) = g.balance.eq k (omega arith)
        by k (no l) =
            let h = node_none (heads (macro_slots a)) (amount f) (length (macro_slots a)) k (λ s q e. let b = (macro_heads a fine).lt s q in omega arith) in
            let t = node_none (tails (macro_slots a)) (amount f) (length (macro_slots a)) k (λ s q e. let b = (macro_tails a fine).lt s q in omega arith) in
            omega arith

    -- a chain on the slots of macros and pairs: no placement keeps the axis
    pub unsolved_on : UnsolvedOn a f
    unsolved_on =
        record {
          none = λ y k. no_values (tails (macro_slots a)) (heads (macro_slots a)) (pluses (macro_slots a)) (minuses (macro_slots a)) (amount f) (amount (macro_values a y)) (length (macro_slots a)) (suc (length a.sizes)) (macro_tails a fine) (macro_heads a fine) g.balance g.more (macro_values_law a fine y k);
          chain = record {
            on = chain_on;
            few = g.few;
            balance = balance_whole (macro_slots a) (listed a) (macros_front a) (amount f) past_macros (λ k. 0) (λ k. 0) (node_count a) chain_balance;
            more =
                let p = weigh_front (macro_slots a) (listed a) (macros_front a) (amount f) past_macros (λ e. e.plus) in
                let q = weigh_front (macro_slots a) (listed a) (macros_front a) (amount f) past_macros (λ e. e.minus) in
                let r = g.more in
                omega arith;
          };
        }

  -- a macro larger than the die: its two slots are the chain
  pub oversize_on : (i : ℕ) (f : List ℕ) → i < length a.sizes → a.side < get_or a.sizes i 0 → amount f (2 * i) ≡ 1 → amount f (2 * i + 1) ≡ 1 → ((s : ℕ) → (s ≡ 2 * i → ⊥) → (s ≡ 2 * i + 1 → ⊥) → amount f s ≡ 0) → UnsolvedOn a f
  oversize_on i f l large one two rest = unsolved_on f (oversize_refuted a i f l large one two rest)
