-- A growth starts with one node.
use mathlib.Core.Path.{◌≡◌}
use mathlib.Core.List.{List}
use Prim.Native.Nat.{ℕ, zero, suc, ◌≤◌, ◌<◌}
use native.Mathlib.Decide.{ℕ_discrete}
use native.Mathlib.Omega.{arith}
use lib.ListN.{set, replicate}
use lib.Seq.{get_or-set_same, get_or-set_other}
use lib.Dec.{eqb}
use Rattle.num_laws.specs.Sum.{sum}
use Rattle.num_laws.proofs.Sums.{when_le}
use Rattle.axis_graph.specs.declared.Graph.{Graph}
use Rattle.axis_solve.specs.declared.growth.Growth.{Growth}
use Rattle.axis_graph.specs.Limits.{node_room}
use Rattle.axis_graph.specs.Graph.{at, GraphWithin, Net}
use Rattle.axis_solve.specs.Growth.{seed_of, outside, Growing}
use Rattle.axis_solve.specs.Augment.{Sound}
use Rattle.num_laws.proofs.Stores.{zero_at}
use Rattle.axis_solve.proofs.Joins.{outside_less}

-- no node is in the set
abbrev zeros : List ℕ
zeros = replicate node_room 0

-- no more nodes are outside than there are
outside_most : (rank : List ℕ) (n : ℕ) → outside rank n ≤ n
unfolding outside sum
outside_most rank zero = omega arith
outside_most rank (suc n) = let a = outside_most rank n in let b = when_le (eqb (at rank n) 0) 1 in omega arith

module _ (g : Graph) (f x : List ℕ) (start r : ℕ) (fine : GraphWithin g) (ok : Sound g f x) (b : start < g.n) (some : 0 < r) where
  start_fine : start < node_room
  start_fine = let a = fine.nodes in omega arith

  abbrev rank₀ : List ℕ
  rank₀ = set zeros start 1

  -- no other node is in the set
  only : (k : ℕ) → 0 < at rank₀ k → k ≡ start
  only k h = by (ℕ_discrete k start)
    where
      by : Dec (k ≡ start) → k ≡ start
      by (yes e) = e
      by (no n) = let a = get_or-set_other zeros start k 1 0 n in let c = zero_at node_room k in absurd (omega arith)

  -- a growth of the start alone
  pub seeded_at : Growing g f (seed_of x start r)
  seeded_at =
      record {
        holds = ok.holds;
        tight = ok.tight;
        tree = record {
          root = rw (get_or-set_same zeros start 1 0 start_fine) (omega arith);
          most = λ k. most k (ℕ_discrete k start);
          nodes = λ k h. let e = only k h in omega arith;
          some = λ k h. rw (only k h, get_or-set_same zeros start r 0 start_fine) some;
          link = λ k h n. absurd (n (only k h));
        };
        small = record { most = λ k. let a = ok.low k in omega arith };
        low = record { low = λ k h. ok.low k };
        near = ok.near;
        few = let a = outside_less zeros start 1 start_fine (zero_at node_room start) g.n b (omega arith) in let c = outside_most zeros g.n in let d = fine.nodes in omega arith;
      }
    where
      most : (k : ℕ) → Dec (k ≡ start) → at rank₀ k ≤ 1
      most k (yes e) = rw (e, get_or-set_same zeros start 1 0 start_fine) (omega arith)
      most k (no n) = rw (get_or-set_other zeros start k 1 0 n, zero_at node_room k) (omega arith)

module _ (g : Graph) (f x : List ℕ) (start r : ℕ) (fine : GraphWithin g) (ok : Sound g f x) (goal : ℕ) (net : Net g start goal) (some : 0 < r) (w : Growth) (e : w ≡ seed_of x start r) where
  pub seed_growing : Growing g f w
  seed_growing = rw e (seeded_at g f x start r fine ok net.lo_in some)
