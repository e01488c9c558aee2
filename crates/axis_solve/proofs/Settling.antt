-- The values of the last growth are least, and of the least the smallest: `solved`. Of values that are tight where something flows
-- the last growth from node 0 has the smallest (`above`).
use mathlib.Core.Path.{◌≡◌, ap, subst, ◌∙◌}
use mathlib.Core.List.{List}
use Prim.Native.Nat.{ℕ, ◌<◌}
use native.Mathlib.Omega.{arith}
use Rattle.axis_graph.specs.declared.Graph.{Graph}
use Rattle.axis_solve.specs.declared.growth.Growth.{Growth}
use Rattle.axis_graph.specs.declared.Span.{Span}
use Rattle.axis_graph.specs.Graph.{at, GraphWithin}
use Rattle.axis_solve.specs.Growth.{seed_of, Growing}
use Rattle.axis_graph.specs.Solved.{Nets, Solved, NetEnds}
use Rattle.axis_solve.specs.Flows.{Flows, Settled}
use Rattle.axis_solve.proofs.Smallest.{above}
use Rattle.axis_solve.proofs.Seeds.{seeded_at}
use Rattle.axis_graph.proofs.Optimum.{weak_at, strong_at, tight_at}

module _ (g : Graph) (nets : List Span) (c : ℕ) (fine : GraphWithin g) (ns : Nets g nets c) where
  ends : NetEnds g nets c
  ends = record { lo = λ j l. (ns.net j l).lo_in; hi = λ j l. (ns.net j l).hi_in }

  module _ (f x : List ℕ) (i : Flows g nets c x f) where
    pub solved : (v : Growth) → v ≡ seed_of x 0 1 → (w : Growth) → Settled g f v.start w → Solved g nets c w.x f
    solved v ve w s =
        let e = strong_at g nets c fine ends f i.balance w.x s.growing.tight in
        record {
          holds = s.growing.holds;
          most = i.most;
          idle = i.idle;
          balance = i.balance;
          reaches = e;
          least = λ z h. let a = weak_at g nets c fine ends f i.balance z h in omega arith;
          smallest = λ z h q k l.
              let t = tight_at g nets c fine ends f i.balance z h (omega arith) in
              let start : w.start ≡ 0 = s.from ∙ ap (λ (u : Growth). u.start) ve in
              let root : 0 < at w.rank 0 = subst (λ (r : ℕ). 0 < at w.rank r) start s.growing.tree.root in
              let a = above g.slots g.m g.n f w.x w.rank w.parent w.room w.count w.start s.growing.tree z h t (at w.rank k) k (omega arith) (l.leads f w.rank s.closed root) in
              let z0 : at z w.start ≡ at z 0 = ap (at z) start in
              let x0 : at w.x w.start ≡ at w.x 0 = ap (at w.x) start in
              omega arith;
        }

  pub solve_growing : (f x : List ℕ) → Flows g nets c x f → 0 < g.n → (v : Growth) → v ≡ seed_of x 0 1 → Growing g f v
  solve_growing f x i b v e = rw e (seeded_at g f x 0 1 fine i.sound b (omega arith))
