-- All bounds, one after the other.
use mathlib.Core.Path.{◌≡◌, sym, ap, subst, ◌∙◌}
use mathlib.Core.List.{List}
use mathlib.Core.Logic.{◌⊎◌, inl, inr, ⊎_elim}
use Prim.Native.Nat.{ℕ, ◌+◌, ◌*◌, ◌≤◌, ◌<◌}
use native.Mathlib.Decide.{ℕ_discrete, dec_lt}
use native.Mathlib.Omega.{arith}
use lib.ListN.{set, length-set}
use lib.Dec.{eqb}
use Rattle.num_laws.specs.Sum.{when}
use Rattle.num_laws.proofs.Sums.{when_zero, sum_eq}
use Rattle.flow_laws.specs.Flow.{at_node, weigh}
use Rattle.axis_bounds.specs.declared.Slot.{Slot}
use Rattle.axis_graph.specs.declared.Graph.{Graph}
use Rattle.axis_graph.specs.Limits.{slot_room}
use Rattle.axis_bounds.specs.Axis.{no_slot}
use Rattle.axis_bounds.specs.Listed.{slot_at, tails, heads}
use Rattle.axis_graph.specs.Graph.{at, SlotWithin, GraphWithin, Net}
use Rattle.axis_solve.specs.Admit.{with_slot, target, Feasible, Fresh, Wanted}
use Rattle.axis_graph.specs.Solved.{Refuted}
use Rattle.axis_solve.proofs.Extensions.{new_slot, old_slot, net_with, fine_with}

module _ (g : Graph) (full : List Slot) (j to : ℕ) (w : Wanted g full j to) (l : j < to) where
  pub wanted_fresh : to ≤ slot_room → Fresh g j
  wanted_fresh b = record { here = let a = w.end in omega arith; room = omega arith; long = w.long; none = w.fresh j (omega arith) l }

  pub wanted_fine : SlotWithin (slot_at full j)
  wanted_fine = w.fine j (omega arith) l

  pub wanted_net : Net g (heads full j) (tails full j)
  wanted_net = w.net j (omega arith) l

  wanted_more : Fresh g j → Wanted (with_slot g j (slot_at full j)) full (j + 1) to
  wanted_more fr =
      record {
        end = w.end;
        long = length-set g.slots j (slot_at full j) ∙ w.long;
        long_full = w.long_full;
        fresh = λ k a b. old_slot g j (slot_at full j) fr k (λ e. omega arith) ∙ w.fresh k (omega arith) b;
        below = λ k a. below k a (ℕ_discrete k j);
        past = λ k a. old_slot g j (slot_at full j) fr k (λ e. omega arith) ∙ w.past k a;
        fine = λ k a b. w.fine k (omega arith) b;
        net = λ k a b. net_with g j (slot_at full j) fr _ _ (w.net k (omega arith) b);
      }
    where
      below : (k : ℕ) → k < j + 1 → Dec (k ≡ j) → slot_at (set g.slots j (slot_at full j)) k ≡ slot_at full k
      below k a (yes e) = ap (slot_at (set g.slots j (slot_at full j))) e ∙ new_slot g j (slot_at full j) fr ∙ ap (slot_at full) (sym e)
      below k a (no n) = old_slot g j (slot_at full j) fr k n ∙ w.below k (omega arith)

  -- a circulation that refutes the graph so far refutes the full graph
  module _ (fr : Fresh g j) (f : List ℕ) (r : Refuted (with_slot g j (slot_at full j)) f) where
    abbrev gs : List Slot
    gs = set g.slots j (slot_at full j)

    same_or_idle : (k : ℕ) → (slot_at gs k ≡ slot_at full k) ⊎ (slot_at gs k ≡ no_slot)
    same_or_idle k = by (dec_lt k (j + 1)) (dec_lt k to)
      where
        by : Dec (k < j + 1) → Dec (k < to) → (slot_at gs k ≡ slot_at full k) ⊎ (slot_at gs k ≡ no_slot)
        by (yes a) b = inl ((wanted_more fr).below k a)
        by (no a) (yes b) = inr ((wanted_more fr).fresh k (omega arith) b)
        by (no a) (no b) = inl ((wanted_more fr).past k (omega arith))

    nodes_same : (end : Slot → ℕ) (k : ℕ) → at_node (λ i. end (slot_at full i)) (at f) g.m k ≡ at_node (λ i. end (slot_at gs i)) (at f) g.m k
    unfolding at_node
    nodes_same end k = sum_eq (λ i. when (eqb (end (slot_at full i)) k) (at f i)) (λ i. when (eqb (end (slot_at gs i)) k) (at f i)) g.m (λ i l'. by i (same_or_idle i))
      where
        by : (i : ℕ) → (slot_at gs i ≡ slot_at full i) ⊎ (slot_at gs i ≡ no_slot) → when (eqb (end (slot_at full i)) k) (at f i) ≡ when (eqb (end (slot_at gs i)) k) (at f i)
        by i (inl e) = ap (λ (u : Slot). when (eqb (end u) k) (at f i)) (sym e)
        by i (inr e) = rw (r.idle i e) (when_zero (eqb (end (slot_at full i)) k) ∙ sym (when_zero (eqb (end (slot_at gs i)) k)))

    costs_same : (cost : Slot → ℕ) → weigh (λ i. cost (slot_at full i)) (at f) g.m ≡ weigh (λ i. cost (slot_at gs i)) (at f) g.m
    unfolding weigh
    costs_same cost = sum_eq (λ i. cost (slot_at full i) * at f i) (λ i. cost (slot_at gs i) * at f i) g.m (λ i l'. by i (same_or_idle i))
      where
        by : (i : ℕ) → (slot_at gs i ≡ slot_at full i) ⊎ (slot_at gs i ≡ no_slot) → cost (slot_at full i) * at f i ≡ cost (slot_at gs i) * at f i
        by i (inl e) = ap (λ (u : Slot). cost u * at f i) (sym e)
        by i (inr e) = rw (r.idle i e) (omega arith)

    refuted_full : Refuted (target g full) f
    refuted_full =
        record {
          few = r.few;
          idle = λ k e. ⊎_elim (λ a. r.idle k (a ∙ e)) (λ a. r.idle k a) (same_or_idle k);
          balance = record { eq = λ k b. let p = nodes_same (λ (u : Slot). u.head) k in let q = nodes_same (λ (u : Slot). u.tail) k in let z = r.balance.eq k b in omega arith };
          more = let p = costs_same (λ (u : Slot). u.plus) in let q = costs_same (λ (u : Slot). u.minus) in let z = r.more in omega arith;
        }

-- ---- the loop: the bounds below j are in h

pub record Admitting (g : Graph) (full : List Slot) (to : ℕ) (h : Graph) (y : List ℕ) (j : ℕ) : Type 0 where
  pub within : j ≤ to
  pub fine : GraphWithin h
  pub free : Feasible h y
  pub wanted : Wanted h full j to
  pub same : target h full ≡ target g full

module _ (g : Graph) (full : List Slot) (to : ℕ) where
  module _ (h : Graph) (y : List ℕ) (j : ℕ) (i : Admitting g full to h y j) where
    module _ (l : j < to) (room : to ≤ slot_room) where
      pub admitting_fresh : Fresh h j
      admitting_fresh = wanted_fresh h full j to i.wanted l room

      pub admitting_slot : SlotWithin (slot_at full j)
      admitting_slot = wanted_fine h full j to i.wanted l

      pub admitting_net : Net h (heads full j) (tails full j)
      admitting_net = wanted_net h full j to i.wanted l

      pub admitting_more : (x' : List ℕ) → Feasible (with_slot h j (slot_at full j)) x' → Admitting g full to (with_slot h j (slot_at full j)) x' (j + 1)
      admitting_more x' free' =
          record {
            within = omega arith;
            fine = fine_with h j (slot_at full j) admitting_fresh i.fine admitting_slot admitting_net;
            free = free';
            wanted = wanted_more h full j to i.wanted l admitting_fresh;
            same = i.same;
          }

      pub admitting_refuted : (f' : List ℕ) → Refuted (with_slot h j (slot_at full j)) f' → Refuted (target g full) f'
      admitting_refuted f' r = subst (λ (t : Graph). Refuted t f') i.same (refuted_full h full j to i.wanted l admitting_fresh f' r)
