-- What a step asks of the slot of least slack, and what it promises of the node that joins.
use mathlib.Core.Path.{◌≡◌, refl}
use mathlib.Core.List.{List}
use mathlib.Core.Logic.{inl, inr, ⊎_elim}
use Prim.Native.Nat.{ℕ, ◌≤◌, ◌<◌, min}
use native.Mathlib.Omega.{arith}
use lib.ListN.{length}
use Rattle.axis_bounds.specs.declared.Slot.{Slot}
use Rattle.axis_graph.specs.declared.Graph.{Graph}
use Rattle.axis_solve.specs.declared.growth.Growth.{Growth}
use Rattle.axis_graph.specs.Limits.{node_room, no_slack}
use Rattle.axis_bounds.specs.Listed.{slot_at, tails, heads}
use Rattle.axis_graph.specs.Graph.{at, GraphWithin, TightAt, slack_at, Leaves}
use Rattle.axis_solve.specs.Growth.{join_of, Least, Raised, Growing, Ready, Joined}
use Rattle.axis_solve.proofs.Joins.{outside_less, tight_up, room_v, from_new, joined}

module _ (g : Graph) (f : List ℕ) (w : Growth) (fine : GraphWithin g) (gr : Growing g f w) (p d : ℕ) (lst : Least g.slots g.m f w.x w.rank g.m p d) (lt : d < no_slack) where
  pub ready : (y : List ℕ) → Raised w.rank d w.x y node_room → Ready g f w y p
  ready y ra = record { fine = fine; growing = gr; by = d; least = lst; below = lt; raised = ra }

module _ (g : Graph) (f : List ℕ) (w : Growth) (y : List ℕ) (p : ℕ) (r : Ready g f w y p) (lr : length w.rank ≡ node_room) (lp : length w.parent ≡ node_room) (lo : length w.room ≡ node_room) where
  abbrev rs : List Slot
  rs = g.slots

  gr : Growing g f w
  gr = r.growing

  pm : p < g.m
  pm = (r.least.found r.below).0

  way : Leaves (at w.rank (tails rs p)) (at w.rank (heads rs p)) (at f p)
  way = (r.least.found r.below).1.way

  by_slack : r.by ≡ slack_at (slot_at rs p) w.x
  by_slack = (r.least.found r.below).2

  counted : (v : ℕ) → v < g.n → at w.rank v ≡ 0 → w.count < node_room
  counted v b o = let a = outside_less w.rank v 1 (let n = r.fine.nodes in omega arith) o g.n b (omega arith) in let c = gr.few in omega arith

  pub count_low : w.count < node_room
  count_low = ⊎_elim (λ z. counted (heads rs p) (r.fine.head.lt p pm) z.1) (λ z. counted (tails rs p) (r.fine.tail.lt p pm) z.0) way

  tight_forward : 0 < at w.rank (tails rs p) → at w.rank (heads rs p) ≡ 0 → TightAt (slot_at rs p) y
  unfolding slack_at
  tight_forward t h =
      record {
        eq =
            let a = r.raised.within (tails rs p) (r.fine.fine p pm).tail t in
            let b = r.raised.out (heads rs p) h in
            let q = gr.holds.le p pm in
            let e = by_slack in
            omega arith;
      }

  pub attach_forward : 0 < at w.rank (tails rs p) → (z : Growth) → z ≡ join_of w y (heads rs p) p (at w.room (tails rs p)) → Joined g f w z
  attach_forward t z e = rw e (by way)
    where
      by : Leaves (at w.rank (tails rs p)) (at w.rank (heads rs p)) (at f p) → Joined g f w (join_of w y (heads rs p) p (at w.room (tails rs p)))
      by (inl a) =
          joined g f w r.fine gr p r.by r.least y r.raised (heads rs p) _ lr lp lo (r.fine.head.lt p pm) a.1 (gr.tree.some _ t) pm (tight_forward t a.1)
          (inl (record { end = refl; from = from_new g f w r.fine gr p r.by r.least y r.raised (heads rs p) _ lr lp lo (r.fine.head.lt p pm) a.1 (gr.tree.some _ t) (tails rs p) t (omega arith) }))
      by (inr a) = let q = a.0 in absurd (omega arith)

  back : (q : ℕ) → 0 < q → q ≤ at f p → q ≤ at w.room (heads rs p) → at w.rank (tails rs p) ≤ 0 → (z : Growth) → z ≡ join_of w y (tails rs p) p q → Joined g f w z
  back q some qf qr t z e = rw e (by way)
    where
      by : Leaves (at w.rank (tails rs p)) (at w.rank (heads rs p)) (at f p) → Joined g f w (join_of w y (tails rs p) p q)
      by (inl a) = let u = a.0 in absurd (omega arith)
      by (inr a) =
          joined g f w r.fine gr p r.by r.least y r.raised (tails rs p) q lr lp lo (r.fine.tail.lt p pm) a.0 some pm
          (record { eq = (tight_up g f w r.fine gr p r.by r.least y r.raised).eq p pm a.2 })
          (inr (record { end = refl; from = from_new g f w r.fine gr p r.by r.least y r.raised (tails rs p) q lr lp lo (r.fine.tail.lt p pm) a.0 some (heads rs p) a.1 qr; carries = rw (room_v g f w r.fine gr p r.by r.least y r.raised (tails rs p) q lr lp lo (r.fine.tail.lt p pm) a.0 some) qf }))

  carries : at w.rank (tails rs p) ≤ 0 → (0 < at f p) × (0 < at w.room (heads rs p))
  carries t = ⊎_elim (λ a. let u = a.0 in absurd (omega arith)) (λ a. (a.2, gr.tree.some _ a.1)) way

  pub attach_back : at w.rank (tails rs p) ≤ 0 → (q : ℕ) → q ≡ min (at f p) (at w.room (heads rs p)) → (z : Growth) → z ≡ join_of w y (tails rs p) p q → Joined g f w z
  attach_back t q e = let c = carries t in let c0 = c.0 in let c1 = c.1 in back q (omega arith) (omega arith) (omega arith) t
