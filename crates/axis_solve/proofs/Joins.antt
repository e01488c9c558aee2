-- A step of the growth keeps the bounds, the tight slots and the tree: `joined`.
--
-- The values of the set rise by the least slack d of a slot that leaves it. A slot that leaves forwards has a slack of at least d,
-- so its bound still holds; a slot that carries and enters the set is tight, so d is 0 where there is one; inside and outside
-- the set nothing changes between the ends of a slot. The slot of least slack is tight now, and the new node joins by it.
use mathlib.Core.Path.{◌≡◌, refl, sym, ap, subst, ◌∙◌}
use mathlib.Core.List.{List}
use mathlib.Core.Logic.{◌⊎◌, inl, inr, ⊎_elim}
use Prim.Native.Nat.{ℕ, ◌+◌, ◌≤◌, ◌<◌}
use native.Mathlib.Decide.{ℕ_discrete}
use native.Mathlib.Omega.{arith}
use lib.ListN.{length, set}
use lib.Seq.{get_or-set_same, get_or-set_other}
use lib.Dec.{eqb}
use borrow.Author.Tests.{eq-eqb, ne_eqb}
use Rattle.num_laws.specs.Sum.{when}
use Rattle.num_laws.proofs.Sums.{sum_change}
use Rattle.axis_bounds.specs.declared.Slot.{Slot}
use Rattle.axis_graph.specs.declared.Graph.{Graph}
use Rattle.axis_solve.specs.declared.growth.Growth.{Growth}
use Rattle.axis_graph.specs.Limits.{node_room, value_most}
use Rattle.axis_bounds.specs.Listed.{slot_at, tails, heads, pluses, minuses}
use Rattle.axis_graph.specs.Graph.{at, GraphWithin, ValuesWithin, TightAt, slack_at, Holds, Tights}
use Rattle.axis_solve.specs.Growth.{join_of, Least, Raised, From, Forward, Backward, Link, Tree, outside, Growing, Joined}

-- ---- a new node v, outside so far

module _ (rank : List ℕ) (v c : ℕ) (l : v < length rank) (o : at rank v ≡ 0) where
  old : (k : ℕ) → 0 < at rank k → k ≡ v → ⊥
  old k h e = let z : at rank k ≡ at rank v = ap (at rank) e in omega arith

  stays : (z : List ℕ) (q k : ℕ) → 0 < at rank k → at (set z v q) k ≡ at z k
  stays z q k h = get_or-set_other z v k q 0 (old k h)

  pub outside_less : (n : ℕ) → v < n → 0 < c → outside (set rank v c) n + 1 ≡ outside rank n
  unfolding outside
  outside_less n b h =
      let p = sum_change (λ k. when (eqb (at (set rank v c) k) 0) 1) (λ k. when (eqb (at rank k) 0) 1) n v b (λ j d. rw (get_or-set_other rank v j c 0 d)) in
      let q : when (eqb (at rank v) 0) 1 ≡ 1 = rw (eq-eqb _ _ o) in
      let r : when (eqb (at (set rank v c) v) 0) 1 ≡ 0 = rw (get_or-set_same rank v c 0 l, ne_eqb c 0 (λ e. omega arith)) in
      omega arith

module _ (g : Graph) (f : List ℕ) (w : Growth) (fine : GraphWithin g) (gr : Growing g f w) (best d : ℕ) (lst : Least g.slots g.m f w.x w.rank g.m best d) where
  abbrev ss : List Slot
  ss = g.slots

  -- ---- the values raised

  module _ (y : List ℕ) (ra : Raised w.rank d w.x y node_room) where
    ends_fine : (s : ℕ) → s < g.m → (tails ss s < node_room) × (heads ss s < node_room)
    ends_fine s l = ((fine.fine s l).tail, (fine.fine s l).head)

    holds_up : Holds ss g.m y
    unfolding slack_at
    holds_up = record { le = λ s l. by s l (ℕ_discrete (at w.rank (tails ss s)) 0) (ℕ_discrete (at w.rank (heads ss s)) 0) }
      where
        by : (s : ℕ) → s < g.m → Dec (at w.rank (tails ss s) ≡ 0) → Dec (at w.rank (heads ss s) ≡ 0) → at y (tails ss s) + pluses ss s ≤ at y (heads ss s) + minuses ss s
        by s l (yes t) (yes h) = let a = ra.out (tails ss s) t in let b = ra.out (heads ss s) h in let q = gr.holds.le s l in omega arith
        by s l (yes t) (no h) = let a = ra.out (tails ss s) t in let b = ra.within (heads ss s) (ends_fine s l).1 (omega arith) in let q = gr.holds.le s l in omega arith
        by s l (no t) (yes h) =
            let a = ra.within (tails ss s) (ends_fine s l).0 (omega arith) in
            let b = ra.out (heads ss s) h in
            let q = gr.holds.le s l in
            let r = lst.least s l (record { way = inl (omega arith, h) }) in
            omega arith
        by s l (no t) (no h) = let a = ra.within (tails ss s) (ends_fine s l).0 (omega arith) in let b = ra.within (heads ss s) (ends_fine s l).1 (omega arith) in let q = gr.holds.le s l in omega arith

    pub tight_up : Tights ss g.m f y
    unfolding slack_at
    tight_up = record { eq = λ s l c. by s l c (ℕ_discrete (at w.rank (tails ss s)) 0) (ℕ_discrete (at w.rank (heads ss s)) 0) }
      where
        by : (s : ℕ) → s < g.m → 0 < at f s → Dec (at w.rank (tails ss s) ≡ 0) → Dec (at w.rank (heads ss s) ≡ 0) → at y (tails ss s) + pluses ss s ≡ at y (heads ss s) + minuses ss s
        by s l c (yes t) (yes h) = let a = ra.out (tails ss s) t in let b = ra.out (heads ss s) h in let q = gr.tight.eq s l c in omega arith
        by s l c (yes t) (no h) =
            let a = ra.out (tails ss s) t in
            let b = ra.within (heads ss s) (ends_fine s l).1 (omega arith) in
            let q = gr.tight.eq s l c in
            let r = lst.least s l (record { way = inr (t, omega arith, c) }) in
            omega arith
        by s l c (no t) (yes h) =
            let a = ra.within (tails ss s) (ends_fine s l).0 (omega arith) in
            let b = ra.out (heads ss s) h in
            let q = gr.tight.eq s l c in
            let r = lst.least s l (record { way = inl (omega arith, h) }) in
            omega arith
        by s l c (no t) (no h) = let a = ra.within (tails ss s) (ends_fine s l).0 (omega arith) in let b = ra.within (heads ss s) (ends_fine s l).1 (omega arith) in let q = gr.tight.eq s l c in omega arith

    -- a tight slot inside the set stays tight
    inside_up : (s : ℕ) → s < g.m → 0 < at w.rank (tails ss s) → 0 < at w.rank (heads ss s) → TightAt (slot_at ss s) w.x → TightAt (slot_at ss s) y
    inside_up s l t h q = record { eq = let a = ra.within (tails ss s) (ends_fine s l).0 t in let b = ra.within (heads ss s) (ends_fine s l).1 h in let e = q.eq in omega arith }

    link_up : (k p : ℕ) → 0 < at w.rank k → Link ss g.m f w.x w.rank w.room k p → TightAt (slot_at ss p) y
    link_up k p h t =
        ⊎_elim
        (λ v. inside_up p t.slot v.from.ranked (subst (λ (u : ℕ). 0 < at w.rank u) (sym v.end) h) t.tight)
        (λ v. inside_up p t.slot (subst (λ (u : ℕ). 0 < at w.rank u) (sym v.end) h) v.from.ranked t.tight)
        t.way

    -- ---- the new node

    module _ (v q : ℕ) (lr : length w.rank ≡ node_room) (lp : length w.parent ≡ node_room) (lo : length w.room ≡ node_room) (b : v < g.n) (o : at w.rank v ≡ 0) (some : 0 < q) where
      abbrev rank' : List ℕ
      rank' = set w.rank v (w.count + 1)

      abbrev room' : List ℕ
      room' = set w.room v q

      v_fine : v < node_room
      v_fine = let p = fine.nodes in omega arith

      keeps : (z : List ℕ) (r k : ℕ) → 0 < at w.rank k → at (set z v r) k ≡ at z k
      keeps = stays w.rank v (w.count + 1) (omega (arith, v_fine)) o

      rank_v : at rank' v ≡ w.count + 1
      rank_v = get_or-set_same w.rank v (w.count + 1) 0 (omega (arith, v_fine))

      pub room_v : at room' v ≡ q
      room_v = get_or-set_same w.room v q 0 (omega (arith, v_fine))

      from_old : (u k : ℕ) → 0 < at w.rank k → From w.rank w.room u k → From rank' room' u k
      from_old u k h t =
          let a = keeps w.rank (w.count + 1) u t.ranked in
          let c = keeps w.rank (w.count + 1) k h in
          let e = keeps w.room q u t.ranked in
          let i = keeps w.room q k h in
          let x0 = t.ranked in let x1 = t.before in let x2 = t.much in
          record { ranked = omega arith; before = omega arith; much = omega arith }

      pub from_new : (u : ℕ) → 0 < at w.rank u → q ≤ at w.room u → From rank' room' u v
      from_new u h r =
          let a = keeps w.rank (w.count + 1) u h in
          let e = keeps w.room q u h in
          let m = gr.tree.most u in
          let rv = rank_v in let ov = room_v in
          record { ranked = omega arith; before = omega arith; much = omega arith }

      link_old : (k p : ℕ) → 0 < at w.rank k → Link ss g.m f w.x w.rank w.room k p → Link ss g.m f y rank' room' k p
      link_old k p h t =
          record {
            slot = t.slot;
            tight = link_up k p h t;
            way = ⊎_elim
                (λ z. inl (record { end = z.end; from = from_old _ k h z.from }))
                (λ z. inr (record { end = z.end; from = from_old _ k h z.from; carries = let i = keeps w.room q k h in let j = z.carries in omega arith }))
                t.way;
          }

      -- what the step knows of the new node
      abbrev New : Type 0
      New = Forward ss rank' room' v best ⊎ Backward ss f rank' room' v best

      module _ (bm : best < g.m) (tight : TightAt (slot_at ss best) y) (new : New) where
        tree_up : Tree ss g.m g.n f y rank' (set w.parent v best) room' (w.count + 1) w.start
        tree_up =
            record {
              root = let a = keeps w.rank (w.count + 1) w.start gr.tree.root in let r = gr.tree.root in omega arith;
              most = λ k. most k (ℕ_discrete k v);
              nodes = λ k h. nodes k h (ℕ_discrete k v);
              some = λ k h. some' k h (ℕ_discrete k v);
              link = λ k h n. link k h n (ℕ_discrete k v);
            }
          where
            was : (k : ℕ) → (k ≡ v → ⊥) → 0 < at rank' k → 0 < at w.rank k
            was k n h = let e = get_or-set_other w.rank v k (w.count + 1) 0 n in omega arith

            most : (k : ℕ) → Dec (k ≡ v) → at rank' k ≤ w.count + 1
            most k (yes e) = rw (e, rank_v) (omega arith)
            most k (no n) = let e = get_or-set_other w.rank v k (w.count + 1) 0 n in let m = gr.tree.most k in omega arith

            nodes : (k : ℕ) → 0 < at rank' k → Dec (k ≡ v) → k < g.n
            nodes k h (yes e) = omega arith
            nodes k h (no n) = gr.tree.nodes k (was k n h)

            some' : (k : ℕ) → 0 < at rank' k → Dec (k ≡ v) → 0 < at room' k
            some' k h (yes e) = rw (e, room_v) some
            some' k h (no n) = rw (get_or-set_other w.room v k q 0 n) (gr.tree.some k (was k n h))

            link : (k : ℕ) → 0 < at rank' k → (k ≡ w.start → ⊥) → Dec (k ≡ v) → Link ss g.m f y rank' room' k (at (set w.parent v best) k)
            link k h n (yes e) = rw (e, get_or-set_same w.parent v best 0 (omega (arith, v_fine))) (record { slot = bm; tight = tight; way = new })
            link k h n (no d) = rw (get_or-set_other w.parent v k best 0 d) (link_old k (at w.parent k) (was k d h) (gr.tree.link k (was k d h) n))

        small_up : ValuesWithin y
        small_up = record { most = λ k. by k (ℕ_discrete (at w.rank k) 0) }
          where
            by : (k : ℕ) → Dec (at w.rank k ≡ 0) → at y k ≤ value_most
            by k (yes e) = let a = ra.out k e in let c = gr.small.most k in omega arith
            by k (no n) =
                let a = gr.near.near y holds_up k v (gr.tree.nodes k (omega arith)) b in
                let c = ra.out v o in
                let e = gr.low.low v o in
                omega arith

        was_out : (k : ℕ) → at rank' k ≡ 0 → at w.rank k ≡ 0
        was_out k h = by (ℕ_discrete k v)
          where
            by : Dec (k ≡ v) → at w.rank k ≡ 0
            by (yes e) = rw e o
            by (no n) = sym (get_or-set_other w.rank v k (w.count + 1) 0 n) ∙ h

        pub joined : Joined g f w (join_of w y v best q)
        joined =
            let ol = outside_less w.rank v (w.count + 1) (omega (arith, v_fine)) o g.n b (omega arith) in
            record {
              growing = record {
                holds = holds_up;
                tight = tight_up;
                tree = tree_up;
                small = small_up;
                low = record { low = λ k h. let a = ra.out k (was_out k h) in let c = gr.low.low k (was_out k h) in omega arith };
                near = gr.near;
                few = let fw = gr.few in omega arith;
              };
              node = v;
              new = rw rank_v (omega arith);
              start = refl;
              fewer = omega arith;
              out = λ k h. ra.out k (was_out k h);
            }
