-- The two slots of a macro that is larger than the die are a closed chain whose sum is above 0.
use Prim.Native.Nat.{ℕ, suc, ◌+◌, ◌*◌, ◌≤◌, ◌<◌}
use mathlib.Core.Path.{◌≡◌, sym, ap, ◌∙◌}
use mathlib.Core.List.{List}
use native.Mathlib.Decide.{ℕ_discrete}
use native.Mathlib.Omega.{arith}
use lib.Dec.{eqb}
use lib.ListN.{length, get_or}
use Rattle.num_laws.specs.Sum.{when}
use Rattle.num_laws.proofs.Sums.{when_zero}
use Rattle.num_laws.proofs.Terms.{sum_two}
use Rattle.flow_laws.specs.Flow.{at_node, weigh}
use Rattle.axis_bounds.specs.declared.Slot.{Slot}
use Rattle.axis_bounds.specs.Axis.{Axis}
use Rattle.axis_bounds.specs.Listed.{slot, slot_at, amount}
use Rattle.axis_bounds.specs.Graph.{macro_slots, GraphRefuted}
use Rattle.axis_bounds.proofs.Counts.{length_macros}
use Rattle.axis_bounds.proofs.Positions.{rise_at, fall_at}

-- amounts of 1 on two neighbouring slots, being d and e, and 0 elsewhere
module _ (ss : List Slot) (f : List ℕ) (p : ℕ) (d e : Slot) (l : p + 1 < length ss) (first : slot_at ss p ≡ d) (second : slot_at ss (p + 1) ≡ e) (one : amount f p ≡ 1) (two : amount f (p + 1) ≡ 1)
    (rest : (s : ℕ) → (s ≡ p → ⊥) → (s ≡ p + 1 → ⊥) → amount f s ≡ 0) where
  next : p + 1 ≡ suc p
  next = omega arith

  rest_suc : (s : ℕ) → (s ≡ p → ⊥) → (s ≡ suc p → ⊥) → amount f s ≡ 0
  rest_suc s u v = rest s u (λ q. v (q ∙ next))

  weigh_two : (of : Slot → ℕ) → weigh (λ s. of (slot_at ss s)) (amount f) (length ss) ≡ of d + of e
  unfolding weigh
  weigh_two of =
      let t = sum_two (λ s. of (slot_at ss s) * amount f s) (length ss) p (omega arith) (λ s u v. rw (rest_suc s u v) (omega arith)) in
      let b : of (slot_at ss p) * amount f p ≡ of d = rw (first, one) (omega arith) in
      let c : of (slot_at ss (suc p)) * amount f (suc p) ≡ of e = rw (← next, second, two) (omega arith) in
      omega arith

  node_two : (of : Slot → ℕ) (k : ℕ) → at_node (λ s. of (slot_at ss s)) (amount f) (length ss) k ≡ when (eqb (of d) k) 1 + when (eqb (of e) k) 1
  unfolding at_node
  node_two of k =
      let t = sum_two (λ s. when (eqb (of (slot_at ss s)) k) (amount f s)) (length ss) p (omega arith) (λ s u v. rw (rest_suc s u v) (when_zero (eqb (of (slot_at ss s)) k))) in
      let b : when (eqb (of (slot_at ss p)) k) (amount f p) ≡ when (eqb (of d) k) 1 = rw (first, one) in
      let c : when (eqb (of (slot_at ss (suc p))) k) (amount f (suc p)) ≡ when (eqb (of e) k) 1 = rw (← next, second, two) in
      omega arith

module _ (a : Axis) (i : ℕ) (f : List ℕ) (l : i < length a.sizes) (large : a.side < get_or a.sizes i 0) (one : amount f (2 * i) ≡ 1) (two : amount f (2 * i + 1) ≡ 1)
    (rest : (s : ℕ) → (s ≡ 2 * i → ⊥) → (s ≡ 2 * i + 1 → ⊥) → amount f s ≡ 0) where
  abbrev up : Slot
  up = slot 0 (suc i) 0 0

  abbrev down : Slot
  down = slot (suc i) 0 (get_or a.sizes i 0) a.side

  in_macros : 2 * i + 1 < length (macro_slots a)
  in_macros = let c = length_macros a in omega arith

  -- s is the first slot of the macro, or its second, or another
  by_place : (s : ℕ) (P : Type 0) → (s ≡ 2 * i → P) → (s ≡ 2 * i + 1 → P) → ((s ≡ 2 * i → ⊥) → (s ≡ 2 * i + 1 → ⊥) → P) → P
  by_place s P u v w = by (ℕ_discrete s (2 * i)) (ℕ_discrete s (2 * i + 1))
    where
      by : Dec (s ≡ 2 * i) → Dec (s ≡ 2 * i + 1) → P
      by (yes q) d = u q
      by (no q) (yes d) = v d
      by (no q) (no d) = w q d

  pub oversize_refuted : GraphRefuted a f
  oversize_refuted =
      record {
        few = λ s. by_place s (amount f s ≤ 1) (λ e. rw (e, one) (omega arith)) (λ e. rw (e, two) (omega arith)) (λ u v. rw (rest s u v) (omega arith));
        idle = λ s e.
            by_place s (amount f s ≡ 0)
            (λ q. let h = ap (λ (t : Slot). t.head) (sym (rise_at a i l) ∙ ap (slot_at (macro_slots a)) (sym q) ∙ e) in absurd (omega arith))
            (λ q. let h = ap (λ (t : Slot). t.tail) (sym (fall_at a i l) ∙ ap (slot_at (macro_slots a)) (sym q) ∙ e) in absurd (omega arith))
            (rest s);
        balance = record { eq = λ k q. let h = node (λ t. t.head) k in let t = node (λ t. t.tail) k in omega arith };
        more = let p = whole (λ t. t.plus) in let m = whole (λ t. t.minus) in omega arith;
      }
    where
      node : (of : Slot → ℕ) (k : ℕ) → at_node (λ s. of (slot_at (macro_slots a) s)) (amount f) (length (macro_slots a)) k ≡ when (eqb (of up) k) 1 + when (eqb (of down) k) 1
      node = node_two (macro_slots a) f (2 * i) up down in_macros (rise_at a i l) (fall_at a i l) one two rest

      whole : (of : Slot → ℕ) → weigh (λ s. of (slot_at (macro_slots a) s)) (amount f) (length (macro_slots a)) ≡ of up + of down
      whole = weigh_two (macro_slots a) f (2 * i) up down in_macros (rise_at a i l) (fall_at a i l) one two rest
