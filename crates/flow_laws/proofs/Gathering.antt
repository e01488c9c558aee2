-- Sums at the nodes, one amount after the other.
use Prim.Native.Nat.{ℕ, zero, suc, ◌+◌, ◌*◌, ◌≤◌, ◌<◌}
use mathlib.Core.Path.{◌≡◌, refl, sym, ap, ◌∙◌}
use mathlib.Core.Bool.{Bool}
use mathlib.Core.List.{List}
use native.Mathlib.Decide.{ℕ_discrete}
use native.Mathlib.Numerals.{add-one}
use native.Mathlib.Omega.{arith}
use borrow.Author.Tests.{eq-eqb, ne_eqb}
use lib.Dec.{eqb}
use lib.ListN.{length, get_or, set}
use lib.Seq.{get_or-set_same, get_or-set_other}
use Rattle.num_laws.specs.Sum.{sum, when}
use Rattle.num_laws.proofs.Sums.{when_le, sum_le}
use Rattle.flow_laws.specs.Flow.{at_node}

module _ (end f : ℕ → ℕ) where
  pub node_next : (i k : ℕ) → at_node end f (i + 1) k ≡ at_node end f i k + when (eqb (end i) k) (f i)
  unfolding at_node sum
  node_next i k = rw (add-one i) refl

  pub node_none : (k : ℕ) → at_node end f 0 k ≡ 0
  unfolding at_node sum
  node_none k = refl

  pub node_most : (q : ℕ) → ((s : ℕ) → f s ≤ q) → (i k : ℕ) → at_node end f i k ≤ i * q
  unfolding at_node sum
  node_most q h zero k = omega arith
  node_most q h (suc i) k = let a = node_most q h i k in let b = when_le (eqb (end i) k) (f i) in let c = h i in omega arith

  pub node_sum : (i k : ℕ) → at_node end f i k ≤ sum f i
  unfolding at_node
  node_sum i k = sum_le (λ s. when (eqb (end s) k) (f s)) f i (λ s l. when_le (eqb (end s) k) (f s))

  -- the sums of the first i amounts, over those of b, with amount i added at its end
  pub node_added : (b : ℕ → ℕ) (i : ℕ) (r : List ℕ) (k : ℕ) → end i < length r → get_or r k 0 ≡ b k + at_node end f i k → get_or (set r (end i) (get_or r (end i) 0 + f i)) k 0 ≡ b k + at_node end f (i + 1) k
  node_added b i r k l p = by (ℕ_discrete k (end i))
    where
      by : Dec (k ≡ end i) → get_or (set r (end i) (get_or r (end i) 0 + f i)) k 0 ≡ b k + at_node end f (i + 1) k
      by (yes e) =
          let s = ap (λ (t : ℕ). get_or (set r (end i) (get_or r (end i) 0 + f i)) t 0) e ∙ get_or-set_same r (end i) (get_or r (end i) 0 + f i) 0 l in
          let q : get_or r (end i) 0 ≡ get_or r k 0 = ap (λ (t : ℕ). get_or r t 0) (sym e) in
          let o = node_next i k in
          let w : when (eqb (end i) k) (f i) ≡ f i = ap (λ (t : Bool). when t (f i)) (eq-eqb (end i) k (sym e)) in
          omega arith
      by (no n) =
          let s = get_or-set_other r (end i) k (get_or r (end i) 0 + f i) 0 n in
          let o = node_next i k in
          let w : when (eqb (end i) k) (f i) ≡ 0 = ap (λ (t : Bool). when t (f i)) (ne_eqb (end i) k (λ e. n (sym e))) in
          omega arith
