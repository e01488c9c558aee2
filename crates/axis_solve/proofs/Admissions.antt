-- One bound is added, or refuted.
--
-- Refuted: the tail of the new slot joined a growth from its head, while the bound fails. The amount 1 is pushed from head to
-- tail along tight slots, and closed by the new slot: by strong duality the circulation weighs as much as the bound fails by.
use mathlib.Core.Path.{◌≡◌, refl, sym, ap, subst, ◌∙◌}
use mathlib.Core.Bool.{Bool, true, false}
use mathlib.Core.List.{List}
use mathlib.Core.Logic.{⊎_elim}
use Prim.Native.Nat.{ℕ, ◌+◌, ◌≤◌, ◌<◌}
use native.Mathlib.Decide.{ℕ_discrete, dec_lt}
use native.Mathlib.Omega.{arith}
use lib.ListN.{length, set}
use lib.Seq.{get_or-set_same, get_or-set_other}
use lib.Dec.{eqb}
use Rattle.num_laws.specs.Sum.{when}
use Rattle.num_laws.proofs.Sums.{sum_pick}
use Rattle.flow_laws.specs.Flow.{weigh, Balance}
use Rattle.flow_laws.proofs.Duality.{strong}
use Rattle.axis_bounds.specs.declared.Slot.{Slot}
use Rattle.axis_graph.specs.declared.Graph.{Graph}
use Rattle.axis_solve.specs.declared.growth.Growth.{Growth}
use Rattle.axis_graph.specs.Limits.{slot_room, low_most}
use Rattle.axis_bounds.specs.Axis.{no_slot}
use Rattle.axis_bounds.specs.Listed.{slot_at, tails, heads, pluses, minuses}
use Rattle.axis_graph.specs.Graph.{at, Decides, GraphWithin, HoldsAt, Net}
use Rattle.axis_solve.specs.Growth.{seed_of, Growing, Shifted}
use Rattle.axis_solve.specs.Push.{Pushable, Pushed}
use Rattle.axis_solve.specs.Admit.{with_slot, Feasible, Fresh, Approached}
use Rattle.axis_graph.specs.Solved.{Refuted}
use Rattle.axis_graph.proofs.Zeros.{none, none_at, zero_node}
use Rattle.axis_solve.proofs.Zeros.{zero_sound}
use Rattle.axis_solve.proofs.Seeds.{seed_growing}
use Rattle.axis_solve.proofs.Extensions.{new_slot, old_slot, holds_with, near_with, node_with, weigh_with}

-- the value of one node
pick : (x : List ℕ) (n i : ℕ) → i < n → weigh (at x) (λ k. when (eqb i k) 1) n ≡ at x i
unfolding weigh
pick x n i l = let a = sum_pick (at x) i 1 n l in omega arith

module _ (g : Graph) (x : List ℕ) (s : Slot) (fine : GraphWithin g) (free : Feasible g x) (net : Net g s.head s.tail) (v : Growth) (ve : v ≡ seed_of x s.head 1) where
  pub admit_growing : Growing g none v
  admit_growing = seed_growing g none x s.head 1 fine (zero_sound g x free) s.tail net (omega arith) v ve

module _ (g : Graph) (st : ℕ) (s : Slot) (w : Growth) (a : Approached g none st s w) (b : Bool) (d : Decides b (HoldsAt s w.x)) (e : b ≡ false) where
  joined : 0 < at w.rank s.tail
  joined = ⊎_elim (λ h. absurd (d.fails e h)) (λ h. h) a.done

  pub admit_pushable : Pushable g none w s.tail 1
  admit_pushable =
      record { tight = a.growing.tight; tree = a.growing.tree; goal_in = joined; much = a.growing.tree.some _ joined; few = λ k. let z = none_at k in omega arith; little = omega arith }

module _ (g : Graph) (x : List ℕ) (j : ℕ) (s : Slot) (fine : GraphWithin g) (free : Feasible g x) (fr : Fresh g j) (net : Net g s.head s.tail) (v : Growth) (ve : v ≡ seed_of x s.head 1) (w : Growth) (ap' : Approached g none v.start s w) where
  gr : Growing g none w
  gr = ap'.growing

  from : w.start ≡ s.head
  from = ap'.from ∙ ap (λ (u : Growth). u.start) ve

  pub admit_fits : (b : Bool) → Decides b (HoldsAt s w.x) → b ≡ true → (y : List ℕ) → Shifted (at w.x 0) w.x y g.n → Feasible (with_slot g j s) y
  admit_fits b d e y sh =
      record {
        holds = holds_with g j s fr y (record { le = λ k l. let a = sh.moved _ (fine.tail.lt k l) in let c = sh.moved _ (fine.head.lt k l) in let q = gr.holds.le k l in omega arith }) (record { le = let a = sh.moved _ net.hi_in in let c = sh.moved _ net.lo_in in let q = (d.holds e).le in omega arith });
        low = λ k. low k (dec_lt k g.n);
        near = near_with g j s fr gr.near;
      }
    where
      low : (k : ℕ) → Dec (k < g.n) → at y k ≤ low_most
      low k (yes l) = let a = sh.moved k l in let c = gr.near.near w.x gr.holds k 0 l (omega arith) in omega arith
      low k (no n) = by (ℕ_discrete (at w.rank k) 0)
        where
          by : Dec (at w.rank k ≡ 0) → at y k ≤ low_most
          by (yes q) = let a = sh.rest k (omega arith) in let c = gr.low.low k q in omega arith
          by (no o) = let a = gr.tree.nodes k (omega arith) in absurd (omega arith)

  module _ (b : Bool) (d : Decides b (HoldsAt s w.x)) (e : b ≡ false) where
    violated : at w.x s.head + s.minus < at w.x s.tail + s.plus
    violated = by (dec_lt (at w.x s.head + s.minus) (at w.x s.tail + s.plus))
      where
        by : Dec (at w.x s.head + s.minus < at w.x s.tail + s.plus) → at w.x s.head + s.minus < at w.x s.tail + s.plus
        by (yes h) = h
        by (no n) = absurd (d.fails e (record { le = omega arith }))

    pub admit_refuted : (h : List ℕ) → length h ≡ slot_room → Pushed g none w s.tail 1 h → Refuted (with_slot g j s) (set h j 1)
    admit_refuted h lh p =
        record {
          few = λ k. few k (ℕ_discrete k j);
          idle = λ k o. idle k o (ℕ_discrete k j);
          balance = record {
            eq = λ k l.
                let a = node_with g j s fr (λ (t : Slot). t.head) refl h lh k in
                let c = node_with g j s fr (λ (t : Slot). t.tail) refl h lh k in
                let q = bal.eq k l in
                omega arith;
          };
          more =
              let a = weigh_with g j s fr (λ (t : Slot). t.plus) refl h lh in
              let c = weigh_with g j s fr (λ (t : Slot). t.minus) refl h lh in
              let st = strong (tails g.slots) (heads g.slots) (pluses g.slots) (minuses g.slots) (at h) (at w.x) (λ k. when (eqb s.head k) 1) (λ k. when (eqb s.tail k) 1) g.m g.n fine.tail fine.head bal p.tight in
              let u = pick w.x g.n s.head net.lo_in in
              let z = pick w.x g.n s.tail net.hi_in in
              let vi = violated in
              omega arith;
        }
      where
        few : (k : ℕ) → Dec (k ≡ j) → at (set h j 1) k ≤ 1
        few k (yes q) = rw (q, get_or-set_same h j 1 0 (let r = fr.room in omega arith)) (omega arith)
        few k (no n) = rw (get_or-set_other h j k 1 0 n) (let a = p.most k in let c = none_at k in omega arith)

        idle : (k : ℕ) → slot_at (set g.slots j s) k ≡ no_slot → Dec (k ≡ j) → at (set h j 1) k ≡ 0
        idle k o (yes q) =
            let z : s ≡ no_slot = sym (new_slot g j s fr) ∙ ap (slot_at (set g.slots j s)) (sym q) ∙ o in
            absurd (d.fails e (subst (λ (t : Slot). HoldsAt t w.x) (sym z) (record { le = omega arith })))
        idle k o (no n) =
            let z : slot_at g.slots k ≡ no_slot = sym (old_slot g j s fr k n) ∙ o in
            rw (get_or-set_other h j k 1 0 n) (p.idle k (ap (λ (t : Slot). t.tail) z ∙ sym (ap (λ (t : Slot). t.head) z)) ∙ none_at k)

        bal : Balance (tails g.slots) (heads g.slots) (at h) (λ k. when (eqb s.head k) 1) (λ k. when (eqb s.tail k) 1) g.m g.n
        bal = record {
          eq = λ k l.
              let a = (p.balance (λ i. 0) (λ i. 0) (record { eq = λ i o. let b' = zero_node (heads g.slots) g.m i in let c = zero_node (tails g.slots) g.m i in omega arith })).eq k l in
              let c : when (eqb w.start k) 1 ≡ when (eqb s.head k) 1 = rw from in
              omega arith;
        }
