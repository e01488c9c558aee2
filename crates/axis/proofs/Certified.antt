-- What a certificate shows: the values are the smallest of the least.
--
-- Amounts that balance and stand on tight slots make the values least, as those of the solver. By the order of the ranks every node
-- stands as near to node 0 as in any other least values (`above`).
use Rattle.std.proofs.Common.{◌≡◌, ℕ, zero, suc, ◌+◌, ◌<◌, ◌≤◌, List, [], replicate, ap, ⊎_elim, arith}
use native.Mathlib.Decide.{ℕ_discrete, dec_lt}
use lib.ListN.{get_or-replicate, length-replicate, get_or-eq_default}
use Rattle.axis_bounds.specs.Listed.{tails, heads}
use Rattle.axis_graph.specs.declared.Graph.{Graph}
use Rattle.axis_graph.specs.declared.Span.{Span}
use Rattle.axis_graph.specs.Graph.{at, GraphWithin, Holds, Tights, Closed, Leads}
use Rattle.axis_graph.specs.Solved.{Solved}
use Rattle.axis_graph.proofs.Optimum.{weak_at, strong_at, tight_at}
use Rattle.axis_values.specs.Values.{Rooted, parent_of, rank_of, Rests}
use Rattle.axis_amounts.specs.Amounts.{Flow}

-- ---- nodes that 0 leads to

leads_in : (g : Graph) → GraphWithin g → 0 < g.n → (k : ℕ) → Leads g 0 k → k < g.n
leads_in g fine some k h = by (dec_lt k g.n)
  where
    ones : List ℕ
    ones = replicate g.n 1

    one_at : (j : ℕ) → j < g.n → at ones j ≡ 1
    one_at j l = get_or-replicate g.n j 1 0 l

    closed : Closed g [] ones
    closed = record { none = λ s l w. let p = one_at (tails g.slots s) (fine.tail.lt s l) in let q = one_at (heads g.slots s) (fine.head.lt s l) in ⊎_elim (λ v. let u = v.1 in absurd (omega arith)) (λ v. let u = v.0 in absurd (omega arith)) w.way }

    by : Dec (k < g.n) → k < g.n
    by (yes l) = l
    by (no n) =
        let a = h.leads [] ones closed (let o = one_at 0 some in omega arith) in
        let z = get_or-eq_default ones 0 {n = k} (let e = length-replicate {A = ℕ} g.n 1 in omega arith) in
        absurd (omega arith)

-- ---- as near to node 0 as any

module _ (g : Graph) (f x parents : List ℕ) (fine : GraphWithin g) (t : Rooted g.slots g.m f x parents g.n) (z : List ℕ) (h : Holds g.slots g.m z) (c : Tights g.slots g.m f z) where
  above : (d k : ℕ) → k < g.n → rank_of parents k < d → at x k + at z 0 ≤ at z k + at x 0
  above zero k l u = absurd (omega arith)
  above (suc d) k l u = by (ℕ_discrete k 0) (λ v a b. above d v b (omega arith))
    where
      by : Dec (k ≡ 0) → ((v : ℕ) → rank_of parents v < rank_of parents k → v < g.n → at x v + at z 0 ≤ at z v + at x 0) → at x k + at z 0 ≤ at z k + at x 0
      by (yes e) ih = rw e (omega arith)
      by (no o) ih =
          let q = t.parent k (omega arith) l in
          let p = parent_of parents k in
          let e = q.tight.eq in
          ⊎_elim
          (λ w. let i = ih (tails g.slots p) w.1 (fine.tail.lt p q.slot) in let b = h.le p q.slot in let x1 : at x (heads g.slots p) ≡ at x k = ap (at x) w.0 in let z1 : at z (heads g.slots p) ≡ at z k = ap (at z) w.0 in omega arith)
          (λ w. let i = ih (heads g.slots p) w.1 (fine.head.lt p q.slot) in let b = c.eq p q.slot w.2 in let x1 : at x (tails g.slots p) ≡ at x k = ap (at x) w.0 in let z1 : at z (tails g.slots p) ≡ at z k = ap (at z) w.0 in omega arith)
          q.tied.way

-- ---- the certificate

module _ (g : Graph) (nets : List Span) (c : ℕ) (x f parents : List ℕ) (some : 0 < g.n) (flow : Flow g nets c f) (rest : Rests g f x parents) where
  -- a slot from a node to itself that carries is tight, so it asks nothing
  still : (s : ℕ) → tails g.slots s ≡ heads g.slots s → at f s ≡ 0
  still s e = by (dec_lt s g.m) (ℕ_discrete (at f s) 0)
    where
      by : Dec (s < g.m) → Dec (at f s ≡ 0) → at f s ≡ 0
      by d (yes z) = z
      by (no n) (no o) = flow.idle.past s (omega arith)
      by (yes l) (no o) =
          let q = rest.tight.eq s l (omega arith) in
          let a : at x (tails g.slots s) ≡ at x (heads g.slots s) = ap (at x) e in
          flow.idle.still s e (omega arith)

  pub certified : Solved g nets c x f
  certified =
      let fine = flow.fine in
      let ends = flow.ends in
      let bal = flow.balance in
      let e = strong_at g nets c fine ends f bal x rest.tight in
      record {
        holds = rest.kept.holds;
        most = flow.most.most;
        idle = still;
        balance = bal;
        reaches = e;
        least = λ z h. let a = weak_at g nets c fine ends f bal z h in omega arith;
        smallest = λ z h q k l. above g f x parents fine rest.rooted z h (tight_at g nets c fine ends f bal z h (omega arith)) (suc (rank_of parents k)) k (leads_in g fine some k l) (omega arith);
      }
