-- A push along the parents of a growth.
--
-- Parents stand earlier in the order, so the walk from the goal to the start meets each slot once: the slot of c has the amount
-- it had before. A slot walked backwards carries at least the room of c, hence at least q.
use mathlib.Core.Path.{◌≡◌, sym, ap, ◌∙◌}
use mathlib.Core.List.{List}
use mathlib.Core.Logic.{⊎_elim}
use Prim.Native.Nat.{ℕ, ◌+◌, ◌-◌, ◌*◌, ◌≤◌, ◌<◌}
use native.Mathlib.Decide.{ℕ_discrete}
use native.Mathlib.Omega.{arith}
use lib.ListN.{length, set, length-set}
use lib.Seq.{get_or-set_same, get_or-set_other}
use lib.Dec.{eqb}
use mir.Syntax.{w64}
use mir.Val.{Fits}
use Rattle.num_laws.specs.Sum.{when}
use Rattle.num_laws.proofs.Sums.{when_add, sum_change}
use Rattle.flow_laws.specs.Flow.{at_node}
use Rattle.axis_bounds.specs.declared.Slot.{Slot}
use Rattle.axis_graph.specs.declared.Graph.{Graph}
use Rattle.axis_solve.specs.declared.growth.Growth.{Growth}
use Rattle.axis_graph.specs.Limits.{node_room, slot_room}
use Rattle.axis_bounds.specs.Listed.{tails, heads, pluses, minuses}
use Rattle.axis_graph.specs.Graph.{at, GraphWithin}
use Rattle.axis_solve.specs.Growth.{From, Forward, Backward, Link}
use Rattle.axis_solve.specs.Push.{Pushable, Walked}

-- the flow at node k after a store of v at slot p
node_set : (end : ℕ → ℕ) (h : List ℕ) (m p v k : ℕ) → p < m → p < length h → at_node end (at (set h p v)) m k + when (eqb (end p) k) (at h p) ≡ at_node end (at h) m k + when (eqb (end p) k) v
unfolding at_node
node_set end h m p v k l b =
    let e = sum_change (λ s. when (eqb (end s) k) (at (set h p v) s)) (λ s. when (eqb (end s) k) (at h s)) m p l (λ j d. rw (get_or-set_other h p j v 0 d)) in
    let q : when (eqb (end p) k) (at (set h p v) p) ≡ when (eqb (end p) k) v = rw (get_or-set_same h p v 0 b) in
    omega arith

-- q more, q less at slot p
node_more : (end : ℕ → ℕ) (h : List ℕ) (m p q k : ℕ) → p < m → p < length h → at_node end (at (set h p (at h p + q))) m k ≡ at_node end (at h) m k + when (eqb (end p) k) q
node_more end h m p q k l b = let e = node_set end h m p (at h p + q) k l b in let r = when_add (eqb (end p) k) (at h p) q in omega arith

node_less : (end : ℕ → ℕ) (h : List ℕ) (m p q k : ℕ) → p < m → p < length h → q ≤ at h p → at_node end (at h) m k ≡ at_node end (at (set h p (at h p - q))) m k + when (eqb (end p) k) q
node_less end h m p q k l b c =
    let e = node_set end h m p (at h p - q) k l b in
    let r = when_add (eqb (end p) k) (at h p - q) q in
    let t : when (eqb (end p) k) (at h p - q + q) ≡ when (eqb (end p) k) (at h p) = ap (when (eqb (end p) k)) (omega arith) in
    omega arith

module _ (g : Graph) (f : List ℕ) (w : Growth) (goal q : ℕ) (fine : GraphWithin g) (ok : Pushable g f w goal q) where
  abbrev ss : List Slot
  ss = g.slots

  module _ (h : List ℕ) (c : ℕ) (i : Walked g f w goal q h c) where
    pub node_room_law : c < node_room
    node_room_law = let a = ok.tree.nodes c i.ranked in let b = fine.nodes in omega arith

    pub node_fits : Fits w64 (c * 8)
    node_fits = let a = node_room_law in omega arith

    module _ (n : c ≡ w.start → ⊥) where
      abbrev p : ℕ
      p = at w.parent c

      the_link : Link ss g.m f w.x w.rank w.room c p
      the_link = ok.tree.link c i.ranked n

      pub slot_room_law : at w.parent c < slot_room
      slot_room_law = let a = the_link.slot in let b = fine.slots in omega arith

      forward : heads ss p ≡ c → Forward ss w.rank w.room c p
      forward e = ⊎_elim (λ t. t) (λ t. let a = t.from.before in let z : at w.rank (heads ss p) ≡ at w.rank c = ap (at w.rank) e in absurd (omega arith)) the_link.way

      backward : (heads ss p ≡ c → ⊥) → Backward ss f w.rank w.room c p
      backward e = ⊎_elim (λ t. absurd (e t.end)) (λ t. t) the_link.way

      -- the slot of c was not touched yet
      untouched : at h p ≡ at f p
      untouched =
          ⊎_elim
          (λ t. let a = t.from.before in let z : at w.rank (heads ss p) ≡ at w.rank c = ap (at w.rank) t.end in i.same p (omega arith) (omega arith))
          (λ t. let a = t.from.before in let z : at w.rank (tails ss p) ≡ at w.rank c = ap (at w.rank) t.end in i.same p (omega arith) (omega arith))
          the_link.way

      pub back_enough : (heads ss p ≡ c → ⊥) → q ≤ at h p
      back_enough e = let a = untouched in let b = (backward e).carries in let d = i.much in omega arith

      pl : p < length h
      pl = let a = slot_room_law in let b = i.long in omega arith

      -- its ends differ
      no_loop : tails ss p ≡ heads ss p → ⊥
      no_loop e =
          let z : at w.rank (tails ss p) ≡ at w.rank (heads ss p) = ap (at w.rank) e in
          ⊎_elim
          (λ t. let a = t.from.before in let y : at w.rank (heads ss p) ≡ at w.rank c = ap (at w.rank) t.end in omega arith)
          (λ t. let a = t.from.before in let y : at w.rank (tails ss p) ≡ at w.rank c = ap (at w.rank) t.end in omega arith)
          the_link.way

      -- what both directions share
      module _ (v u : ℕ) (vm : v ≤ at f p + q) (fr : From w.rank w.room u c) (other : (s : ℕ) → at w.rank (tails ss s) ≤ at w.rank u → at w.rank (heads ss s) ≤ at w.rank u → s ≡ p → ⊥) where
        next : ((k : ℕ) → at_node (heads ss) (at (set h p v)) g.m k + at_node (tails ss) (at f) g.m k + when (eqb u k) q ≡ at_node (tails ss) (at (set h p v)) g.m k + at_node (heads ss) (at f) g.m k + when (eqb goal k) q) → Walked g f w goal q (set h p v) u
        next mv =
            record {
              long = length-set h p v ∙ i.long;
              ranked = fr.ranked;
              much = let a = fr.much in let b = i.much in omega arith;
              same = λ s t r. rw (get_or-set_other h p s v 0 (other s t r)) (let a = fr.before in i.same s (omega arith) (omega arith));
              tight = record { eq = λ s l d. tight s l d (ℕ_discrete s p) };
              most = λ s. most s (ℕ_discrete s p);
              idle = λ s e. idle s e (ℕ_discrete s p);
              moved = mv;
            }
          where
            tight : (s : ℕ) → s < g.m → 0 < at (set h p v) s → Dec (s ≡ p) → at w.x (tails ss s) + pluses ss s ≡ at w.x (heads ss s) + minuses ss s
            tight s l d (yes e) = rw e the_link.tight.eq
            tight s l d (no o) = i.tight.eq s l (let z = get_or-set_other h p s v 0 o in omega arith)

            idle : (s : ℕ) → tails ss s ≡ heads ss s → Dec (s ≡ p) → at (set h p v) s ≡ at f s
            idle s e (yes o) = absurd (no_loop (ap (tails ss) (sym o) ∙ e ∙ ap (heads ss) o))
            idle s e (no o) = rw (get_or-set_other h p s v 0 o) (i.idle s e)

            most : (s : ℕ) → Dec (s ≡ p) → at (set h p v) s ≤ at f s + q
            most s (yes e) = rw (e, get_or-set_same h p v 0 pl) vm
            most s (no o) = rw (get_or-set_other h p s v 0 o) (i.most s)

      pub walk_forward : heads ss p ≡ c → Walked g f w goal q (set h p (at h p + q)) (tails ss p)
      walk_forward e =
          let t = forward e in
          next (at h p + q) (tails ss p) (let a = untouched in omega arith) t.from
          (λ s x y d. let a = t.from.before in let z : at w.rank (heads ss s) ≡ at w.rank c = ap (λ (o : ℕ). at w.rank (heads ss o)) d ∙ ap (at w.rank) e in omega arith)
          (λ k.
          let a = node_more (heads ss) h g.m p q k the_link.slot pl in
          let b = node_more (tails ss) h g.m p q k the_link.slot pl in
          let z : when (eqb (heads ss p) k) q ≡ when (eqb c k) q = rw e in
          let m = i.moved k in
          omega arith)

      pub walk_back : (heads ss p ≡ c → ⊥) → Walked g f w goal q (set h p (at h p - q)) (heads ss p)
      walk_back n =
          let t = backward n in
          next (at h p - q) (heads ss p) (let a = untouched in omega arith) t.from
          (λ s x y d. let a = t.from.before in let z : at w.rank (tails ss s) ≡ at w.rank c = ap (λ (o : ℕ). at w.rank (tails ss o)) d ∙ ap (at w.rank) t.end in omega arith)
          (λ k.
          let a = node_less (heads ss) h g.m p q k the_link.slot pl (back_enough n) in
          let b = node_less (tails ss) h g.m p q k the_link.slot pl (back_enough n) in
          let z : when (eqb (tails ss p) k) q ≡ when (eqb c k) q = rw t.end in
          let m = i.moved k in
          omega arith)
