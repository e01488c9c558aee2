-- Amounts that stand on the front of a list of slots only: what they weigh and what they carry at a node needs the front alone.
use Prim.Native.Nat.{ℕ, ◌*◌, ◌≤◌, ◌<◌}
use mathlib.Core.Path.{◌≡◌, sym, ap, subst, ◌∙◌}
use mathlib.Core.List.{List, ◌++◌}
use native.Mathlib.Omega.{arith}
use lib.Dec.{eqb}
use lib.ListN.{length, length-append, get_or-append}
use borrow.Author.Tests.{eq-eqb, ne_eqb}
use Rattle.num_laws.specs.Sum.{when}
use Rattle.num_laws.proofs.Sums.{when_zero, sum_eq}
use Rattle.num_laws.proofs.Terms.{sum_stop, sum_none, term_le}
use Rattle.flow_laws.specs.Flow.{at_node, weigh, Balance}
use Rattle.axis_bounds.specs.declared.Slot.{Slot}
use Rattle.axis_bounds.specs.Axis.{Axis, no_slot}
use Rattle.axis_bounds.specs.Listed.{listed, slot_at, tails, heads}
use Rattle.axis_bounds.specs.Graph.{graph_slots, macro_slots}
use Rattle.axis_bounds.proofs.Sorts.{pin_part, end_part, listed_is, graph_is}

-- ss is the front of ts
pub record Front (ss ts : List Slot) : Type 0 where
  pub short : length ss ≤ length ts
  pub same : (s : ℕ) → s < length ss → slot_at ts s ≡ slot_at ss s

front_append : (ss ts : List Slot) → Front ss (ss ++ ts)
front_append ss ts = record { short = let e = length-append ss ts in omega arith; same = λ s l. get_or-append ss ts no_slot s l }

pub listed_front : (a : Axis) → Front (listed a) (graph_slots a)
listed_front a = subst (Front (listed a)) (sym (graph_is a)) (front_append (listed a) (end_part a))

pub macros_front : (a : Axis) → Front (macro_slots a) (listed a)
macros_front a = subst (Front (macro_slots a)) (sym (listed_is a)) (front_append (macro_slots a) (pin_part a))

module _ (ss ts : List Slot) (front : Front ss ts) (f : ℕ → ℕ) (past : (s : ℕ) → length ss ≤ s → f s ≡ 0) where
  pub weigh_front : (of : Slot → ℕ) → weigh (λ s. of (slot_at ts s)) f (length ts) ≡ weigh (λ s. of (slot_at ss s)) f (length ss)
  unfolding weigh
  weigh_front of =
      sum_stop (λ s. of (slot_at ts s) * f s) (length ss) (length ts) front.short (λ i l m. rw (past i l) (omega arith))
      ∙ sum_eq (λ s. of (slot_at ts s) * f s) (λ s. of (slot_at ss s) * f s) (length ss) (λ i l. ap (λ (e : Slot). of e * f i) (front.same i l))

  pub node_front : (of : Slot → ℕ) (k : ℕ) → at_node (λ s. of (slot_at ts s)) f (length ts) k ≡ at_node (λ s. of (slot_at ss s)) f (length ss) k
  unfolding at_node
  node_front of k =
      sum_stop (λ s. when (eqb (of (slot_at ts s)) k) (f s)) (length ss) (length ts) front.short (λ i l m. rw (past i l) (when_zero (eqb (of (slot_at ts i)) k)))
      ∙ sum_eq (λ s. when (eqb (of (slot_at ts s)) k) (f s)) (λ s. when (eqb (of (slot_at ss s)) k) (f s)) (length ss) (λ i l. ap (λ (e : Slot). when (eqb (of e) k) (f i)) (front.same i l))

  -- a balance on the whole is one on the front, and back
  pub balance_front : (sup dem : ℕ → ℕ) (n : ℕ) → Balance (tails ts) (heads ts) f sup dem (length ts) n → Balance (tails ss) (heads ss) f sup dem (length ss) n
  balance_front sup dem n b = record { eq = λ k l. let p = b.eq k l in let q = node_front (λ e. e.tail) k in let r = node_front (λ e. e.head) k in omega arith }

  pub balance_whole : (sup dem : ℕ → ℕ) (n : ℕ) → Balance (tails ss) (heads ss) f sup dem (length ss) n → Balance (tails ts) (heads ts) f sup dem (length ts) n
  balance_whole sup dem n b = record { eq = λ k l. let p = b.eq k l in let q = node_front (λ e. e.tail) k in let r = node_front (λ e. e.head) k in omega arith }

-- nothing is at a node that is no slot's end, and at the end of slot s is what s carries
pub node_none : (end f : ℕ → ℕ) (m k : ℕ) → ((s : ℕ) → s < m → end s ≡ k → ⊥) → at_node end f m k ≡ 0
unfolding at_node
node_none end f m k h = sum_none (λ s. when (eqb (end s) k) (f s)) m (λ s l. rw (ne_eqb (end s) k (h s l)))

pub node_some : (end f : ℕ → ℕ) (m k s : ℕ) → s < m → end s ≡ k → f s ≤ at_node end f m k
unfolding at_node
node_some end f m k s l e =
    let p = term_le (λ i. when (eqb (end i) k) (f i)) m s l in
    let q : when (eqb (end s) k) (f s) ≡ f s = rw (eq-eqb (end s) k e) in
    omega arith
