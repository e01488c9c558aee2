-- Coordinates with a reason at every macro: in all that are as short no coordinate is smaller.
use Rattle.std.proofs.Common.{◌≡◌, ℕ, zero, suc, ◌+◌, ◌*◌, ◌<◌, ◌≤◌, List, ap, arith}
use Rattle.axis_bounds.specs.Axis.{Keeps, value_at}
use Rattle.half_arrays.specs.Arrays.{from_node, to_node, node_at, net_at, axis_on}
use Rattle.half_arrays.proofs.Nets.{top_on, bottom_on, under_top, over_bottom}
use Rattle.half_worth.specs.Amounts.{Passes, WorthLength}
use Rattle.half_reason.specs.Reasons.{Follows, by_tight, by_flow, by_high, by_low, Reasons}
use Rattle.half_worth.proofs.Duality.{arcs_kept, bounds_tight, high_tight, low_tight}

-- the nodes of the bound from u to v
from_is : (u v : ℕ) → v < 9 → from_node (u * 9 + v) ≡ u
from_is u v l = omega arith

to_is : (u v : ℕ) → v < 9 → to_node (u * 9 + v) ≡ v
to_is u v l = omega arith

module _ (tab arcs : List ℕ) (f h l : ℕ → ℕ) (s : Passes tab f h l) (z : List ℕ) (kz : Keeps (axis_on tab arcs) z) (wz : WorthLength tab arcs f h l z) (rank : ℕ → ℕ) (reasons : Reasons tab arcs f h l z rank 9) (y : List ℕ) (ky : Keeps (axis_on tab arcs) y) (wy : WorthLength tab arcs f h l y) where
  -- k follows p, and p is not smaller
  step : (p k : ℕ) → p < 9 → k < 9 → value_at z p ≤ value_at y p → Follows tab arcs f h l z p k → value_at z k ≤ value_at y k
  step p k lp lk ih (by_tight t) =
      let q = (arcs_kept tab arcs f h l s y ky).le (p * 9 + k) (omega arith) in
      let e = t.eq in
      let a = ap (value_at y) (from_is p k lk) in
      let b = ap (value_at y) (to_is p k lk) in
      omega arith
  step p k lp lk ih (by_flow t) =
      let q = (bounds_tight tab arcs f h l s y ky wy).eq (k * 9 + p) (omega arith) t in
      let w = (bounds_tight tab arcs f h l s z kz wz).eq (k * 9 + p) (omega arith) t in
      let a = ap (value_at y) (from_is k p lp) in
      let b = ap (value_at y) (to_is k p lp) in
      let c = ap (value_at z) (from_is k p lp) in
      let d = ap (value_at z) (to_is k p lp) in
      omega arith
  step p k lp lk ih (by_high i j n c t) =
      let e = t.eq in
      let q = high_tight tab arcs f h l s y ky wy j n.second c in
      let u = under_top tab y i n.first in
      let o : top_on tab y (net_at tab i) ≡ top_on tab y (net_at tab j) = ap (top_on tab y) n.net in
      let a : value_at y (node_at tab i) ≡ value_at y p = ap (value_at y) n.from in
      let b : value_at y (node_at tab j) ≡ value_at y k = ap (value_at y) n.to in
      omega arith
  step p k lp lk ih (by_low i j n c t) =
      let e = t.eq in
      let q = low_tight tab arcs f h l s y ky wy i n.first c in
      let u = over_bottom tab y j n.second in
      let o : bottom_on tab y (net_at tab i) ≡ bottom_on tab y (net_at tab j) = ap (bottom_on tab y) n.net in
      let a : value_at y (node_at tab i) ≡ value_at y p = ap (value_at y) n.from in
      let b : value_at y (node_at tab j) ≡ value_at y k = ap (value_at y) n.to in
      omega arith

  climb : (r k : ℕ) → k < 9 → rank k < r → value_at z k ≤ value_at y k
  climb zero k q lt = absurd (omega arith)
  climb (suc r) zero q lt = omega arith
  climb (suc r) (suc i) q lt =
      let t = reasons.at (suc i) (omega arith) q in
      let w = t.lower in
      step t.parent (suc i) t.inside q (climb r t.parent t.inside (omega arith)) t.follows

  -- no coordinate of y is smaller
  pub none_smaller : (k : ℕ) → k < 9 → value_at z k ≤ value_at y k
  none_smaller k q = climb (suc (rank k)) k q (omega arith)
