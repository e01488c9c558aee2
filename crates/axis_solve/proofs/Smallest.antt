-- The values of the tree of a growth are the smallest that tight values can have.
--
-- By the order of joining: a node that joined forwards stands as close to its parent as its bound allows, and one that joined by
-- a slot that carries stands where every tight z has it.
use mathlib.Core.Path.{◌≡◌, ap}
use mathlib.Core.List.{List}
use mathlib.Core.Logic.{⊎_elim}
use Prim.Native.Nat.{ℕ, zero, suc, ◌+◌, ◌≤◌, ◌<◌}
use native.Mathlib.Decide.{ℕ_discrete}
use native.Mathlib.Omega.{arith}
use Rattle.axis_bounds.specs.declared.Slot.{Slot}
use Rattle.axis_bounds.specs.Listed.{tails, heads}
use Rattle.axis_graph.specs.Graph.{at, Holds, Tights}
use Rattle.axis_solve.specs.Growth.{Tree}

module _ (ss : List Slot) (m n : ℕ) (f x rank parent room : List ℕ) (count start : ℕ) (t : Tree ss m n f x rank parent room count start) (z : List ℕ) (h : Holds ss m z) (c : Tights ss m f z) where
  -- no z that keeps the bounds and is tight where something flows has a node of the tree nearer to the start
  pub above : (d k : ℕ) → at rank k ≤ d → 0 < at rank k → at x k + at z start ≤ at z k + at x start
  above zero k u l = absurd (omega arith)
  above (suc d) k u l = by (ℕ_discrete k start) (λ v a b. above d v (omega arith) b)
    where
      by : Dec (k ≡ start) → ((v : ℕ) → at rank v < at rank k → 0 < at rank v → at x v + at z start ≤ at z v + at x start) → at x k + at z start ≤ at z k + at x start
      by (yes e) ih = rw e (omega arith)
      by (no o) ih =
          let q = t.link k l o in
          let p = at parent k in
          let e = q.tight.eq in
          let some = t.some k l in
          ⊎_elim
          (λ w. let i = ih (tails ss p) w.from.before w.from.ranked in let b = h.le p q.slot in let x1 : at x (heads ss p) ≡ at x k = ap (at x) w.end in let z1 : at z (heads ss p) ≡ at z k = ap (at z) w.end in omega arith)
          (λ w. let i = ih (heads ss p) w.from.before w.from.ranked in let r = w.carries in let b = c.eq p q.slot (omega arith) in let x1 : at x (tails ss p) ≡ at x k = ap (at x) w.end in let z1 : at z (tails ss p) ≡ at z k = ap (at z) w.end in omega arith)
          q.way
