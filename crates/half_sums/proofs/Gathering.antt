-- Sums of amounts at their ends, one amount after the other.
use Prim.Native.Nat.{ℕ, ◌+◌, ◌≤◌, ◌<◌}
use mathlib.Core.Path.{◌≡◌, ◌∙◌}
use mathlib.Core.List.{List}
use native.Mathlib.Decide.{dec_lt}
use native.Mathlib.Omega.{arith}
use lib.Dec.{eqb}
use lib.ListN.{get_or, set, replicate, length-set, length-replicate, get_or-eq_default}
use mir.Syntax.{w64}
use mir.Val.{Fits}
use Rattle.num_laws.proofs.Sums.{when_le}
use Rattle.num_laws.proofs.Stores.{zero_at}
use Rattle.flow_laws.proofs.Gathering.{node_next, node_none, node_most, node_added}
use Rattle.half_arrays.specs.State.{amount_at}
use Rattle.half_arrays.proofs.Ranges.{amount_most_law}
use Rattle.half_sums.specs.Sums.{Gathers, SumsWithin}

module _ (end f : ℕ → ℕ) where
  sum_below : (n i : ℕ) (r : List ℕ) → Gathers end f i n r → ((s : ℕ) → f s ≤ 65535) → i ≤ 128 → (k : ℕ) → get_or r k 0 ≤ 8388480
  sum_below n i r g h q k = by (dec_lt k n)
    where
      by : Dec (k < n) → get_or r k 0 ≤ 8388480
      by (yes l) = let a = g.at k l in let b = node_most end f 65535 h i k in omega arith
      by (no l) = let e = get_or-eq_default r 0 {n = k} (let o = g.long in omega arith) in omega arith

  gathers_none : (n : ℕ) → Gathers end f 0 n (replicate n 0)
  gathers_none n = record { long = length-replicate {A = ℕ} n 0; at = λ k l. let z = node_none end f k in let q = zero_at n k in omega arith }

  gathers_more : (n i : ℕ) (r : List ℕ) → Gathers end f i n r → end i < n → Gathers end f (i + 1) n (set r (end i) (get_or r (end i) 0 + f i))
  gathers_more n i r h l = record { long = length-set r (end i) (get_or r (end i) 0 + f i) ∙ h.long; at = λ k m. let p = h.at k m in let q = node_added end f (λ t. 0) i r k (let o = h.long in omega arith) (omega arith) in omega arith }

  gathers_same : (n i : ℕ) (r : List ℕ) → Gathers end f i n r → f i ≡ 0 → Gathers end f (i + 1) n r
  gathers_same n i r h e = record { long = h.long; at = λ k l. let p = h.at k l in let q = node_next end f i k in let w = when_le (eqb (end i) k) (f i) in omega arith }

-- ---- amounts

module _ (end : ℕ → ℕ) (st : List ℕ) (o p n : ℕ) where
  pub any_none : Gathers end (amount_at st o p) 0 n (replicate n 0)
  any_none = gathers_none end (amount_at st o p) n

  pub any_small : (i : ℕ) (r : List ℕ) → Gathers end (amount_at st o p) i n r → i ≤ 128 → SumsWithin r
  any_small i r g q = record { at = sum_below end (amount_at st o p) n i r g (amount_most_law st o p) q }

  module _ (i k a : ℕ) (r : List ℕ) (g : Gathers end (amount_at st o p) i n r) (e : a ≡ amount_at st o p i) where
    pub any_fits : k < n → i ≤ 128 → Fits w64 (get_or r k 0 + a)
    any_fits l q = let h = g.at k l in let b = node_most end (amount_at st o p) 65535 (amount_most_law st o p) i k in let c = amount_most_law st o p i in omega arith

    pub any_more : k ≡ end i → end i < n → Gathers end (amount_at st o p) (i + 1) n (set r k (get_or r k 0 + a))
    any_more d l = rw (d, e) (gathers_more end (amount_at st o p) n i r g l)

    pub any_same : a ≤ 0 → Gathers end (amount_at st o p) (i + 1) n r
    any_same z = gathers_same end (amount_at st o p) n i r g (omega arith)
