-- A graph with one bound more.
use mathlib.Core.Path.{◌≡◌, sym, ap, subst, ◌∙◌}
use mathlib.Core.List.{List}
use mathlib.Core.Logic.{⊎_elim}
use Prim.Native.Nat.{ℕ, ◌+◌, ◌*◌, ◌≤◌, ◌<◌}
use native.Mathlib.Decide.{ℕ_discrete}
use native.Mathlib.Omega.{arith}
use lib.ListN.{length, set}
use lib.Seq.{get_or-set_same, get_or-set_other}
use lib.Dec.{eqb}
use Rattle.num_laws.specs.Sum.{when}
use Rattle.num_laws.proofs.Sums.{sum_change}
use Rattle.flow_laws.specs.Flow.{at_node, weigh}
use Rattle.axis_bounds.specs.declared.Slot.{Slot}
use Rattle.axis_graph.specs.declared.Graph.{Graph}
use Rattle.axis_graph.specs.Limits.{slot_room}
use Rattle.axis_bounds.specs.Axis.{no_slot}
use Rattle.axis_bounds.specs.Listed.{slot_at, tails, heads, pluses, minuses}
use Rattle.axis_graph.specs.Graph.{at, SlotWithin, GraphWithin, HoldsAt, Holds, CloseValues, Leaving, Closed, Net}
use Rattle.axis_solve.specs.Admit.{with_slot, Fresh}

-- slot j, which asked nothing, becomes s
module _ (g : Graph) (j : ℕ) (s : Slot) (fr : Fresh g j) where
  pub new_slot : slot_at (set g.slots j s) j ≡ s
  new_slot = get_or-set_same g.slots j s no_slot (let a = fr.room in let b = fr.long in omega arith)

  pub old_slot : (k : ℕ) → (k ≡ j → ⊥) → slot_at (set g.slots j s) k ≡ slot_at g.slots k
  old_slot k n = get_or-set_other g.slots j k s no_slot n

  pub holds_with : (x : List ℕ) → Holds g.slots g.m x → HoldsAt s x → Holds (set g.slots j s) g.m x
  holds_with x h a = record { le = λ k l. by k l (ℕ_discrete k j) }
    where
      by : (k : ℕ) → k < g.m → Dec (k ≡ j) → at x (tails (set g.slots j s) k) + pluses (set g.slots j s) k ≤ at x (heads (set g.slots j s) k) + minuses (set g.slots j s) k
      by k l (yes e) = (subst (λ (t : Slot). HoldsAt t x) (sym (ap (slot_at (set g.slots j s)) e ∙ new_slot)) a).le
      by k l (no n) = (subst (λ (t : Slot). HoldsAt t x) (sym (old_slot k n)) (record { le = h.le k l })).le

  holds_without : (x : List ℕ) → Holds (set g.slots j s) g.m x → Holds g.slots g.m x
  holds_without x h = record { le = λ k l. by k l (ℕ_discrete k j) }
    where
      by : (k : ℕ) → k < g.m → Dec (k ≡ j) → at x (tails g.slots k) + pluses g.slots k ≤ at x (heads g.slots k) + minuses g.slots k
      by k l (yes e) = (subst (λ (t : Slot). HoldsAt t x) (sym (ap (slot_at g.slots) e ∙ fr.none)) (record { le = omega arith })).le
      by k l (no n) = (subst (λ (t : Slot). HoldsAt t x) (old_slot k n) (record { le = h.le k l })).le

  pub near_with : CloseValues g.slots g.m g.n → CloseValues (set g.slots j s) g.m g.n
  near_with r = record { near = λ y h. r.near y (holds_without y h) }

  -- a sum over the slots, the amount at j now 1
  pub node_with : (end : Slot → ℕ) → end no_slot ≡ 0 → (f : List ℕ) → length f ≡ slot_room → (k : ℕ) → at_node (λ i. end (slot_at (set g.slots j s) i)) (at (set f j 1)) g.m k + when (eqb 0 k) (at f j) ≡ at_node (λ i. end (slot_at g.slots i)) (at f) g.m k + when (eqb (end s) k) 1
  unfolding at_node
  node_with end z f lf k =
      let e = sum_change (λ i. when (eqb (end (slot_at (set g.slots j s) i)) k) (at (set f j 1) i)) (λ i. when (eqb (end (slot_at g.slots i)) k) (at f i)) g.m j fr.here (λ i d. rw (old_slot i d, get_or-set_other f j i 1 0 d)) in
      let a : when (eqb (end (slot_at (set g.slots j s) j)) k) (at (set f j 1) j) ≡ when (eqb (end s) k) 1 = rw (new_slot, get_or-set_same f j 1 0 (let q = fr.room in omega arith)) in
      let b : when (eqb (end (slot_at g.slots j)) k) (at f j) ≡ when (eqb 0 k) (at f j) = rw (fr.none, z) in
      omega arith

  pub weigh_with : (cost : Slot → ℕ) → cost no_slot ≡ 0 → (f : List ℕ) → length f ≡ slot_room → weigh (λ i. cost (slot_at (set g.slots j s) i)) (at (set f j 1)) g.m ≡ weigh (λ i. cost (slot_at g.slots i)) (at f) g.m + cost s
  unfolding weigh
  weigh_with cost z f lf =
      let e = sum_change (λ i. cost (slot_at (set g.slots j s) i) * at (set f j 1) i) (λ i. cost (slot_at g.slots i) * at f i) g.m j fr.here (λ i d. rw (old_slot i d, get_or-set_other f j i 1 0 d)) in
      let a : cost (slot_at (set g.slots j s) j) * at (set f j 1) j ≡ cost s * 1 = rw (new_slot, get_or-set_same f j 1 0 (let q = fr.room in omega arith)) in
      let b : cost (slot_at g.slots j) * at f j ≡ 0 = rw (fr.none, z) (omega arith) in
      omega arith

  -- a set that no slot of the larger graph leaves, no slot of the smaller leaves
  closed_without : (f rank : List ℕ) → Closed (with_slot g j s) f rank → Closed g f rank
  closed_without f rank c = record { none = λ k l w. by k l w (ℕ_discrete k j) }
    where
      by : (k : ℕ) → k < g.m → Leaving (at rank (tails g.slots k)) (at rank (heads g.slots k)) (at f k) → Dec (k ≡ j) → ⊥
      by k l w (yes e) =
          let z : slot_at g.slots k ≡ no_slot = ap (slot_at g.slots) e ∙ fr.none in
          let t : at rank (tails g.slots k) ≡ at rank (heads g.slots k) = ap (λ (u : Slot). at rank u.tail) z ∙ sym (ap (λ (u : Slot). at rank u.head) z) in
          ⊎_elim (λ a. let p = a.0 in let q = a.1 in omega arith) (λ a. let p = a.0 in let q = a.1 in omega arith) w.way
      by k l w (no n) = c.none k l (subst (λ (u : Slot). Leaving (at rank u.tail) (at rank u.head) (at f k)) (sym (old_slot k n)) w)

  pub net_with : (a b : ℕ) → Net g a b → Net (with_slot g j s) a b
  net_with a b n = record { lo_in = n.lo_in; hi_in = n.hi_in; lo_room = n.lo_room; hi_room = n.hi_room; chain = record { leads = λ f rank c. n.chain.leads f rank (closed_without f rank c) } }

  each_slot : (P : Slot → Type 0) → P s → (k : ℕ) → P (slot_at g.slots k) → P (slot_at (set g.slots j s) k)
  each_slot P new k old = by (ℕ_discrete k j)
    where
      by : Dec (k ≡ j) → P (slot_at (set g.slots j s) k)
      by (yes e) = subst P (sym (ap (slot_at (set g.slots j s)) e ∙ new_slot)) new
      by (no n) = subst P (sym (old_slot k n)) old

  pub fine_with : GraphWithin g → SlotWithin s → Net g s.head s.tail → GraphWithin (with_slot g j s)
  fine_with f fs n =
      record {
        nodes = f.nodes;
        slots = f.slots;
        tail = record { lt = λ k l. each_slot (λ (u : Slot). u.tail < g.n) n.hi_in k (f.tail.lt k l) };
        head = record { lt = λ k l. each_slot (λ (u : Slot). u.head < g.n) n.lo_in k (f.head.lt k l) };
        fine = λ k l. each_slot SlotWithin fs k (f.fine k l);
      }
