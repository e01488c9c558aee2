-- A closed chain of bounds whose sum is above 0: no coordinates keep the bounds.
use Rattle.std.proofs.Common.{◌≡◌, ℕ, ◌+◌, ◌*◌, ◌/◌, ◌%◌, ◌<◌, ◌≤◌, Bool, true, List, ap, arith, w64, Fits}
use lib.Dec.{ltb}
use borrow.Author.Tests.{ltb-true}
use Rattle.axis_bounds.specs.Axis.{value_at}
use Rattle.half_arrays.specs.Arrays.{raised, bound_at, KeepsTo}
use Rattle.half_arrays.specs.Says.{Says}
use Rattle.half_fit.specs.Chain.{Empty, Chained}

pub chain_starts : (arcs : List ℕ) (a : ℕ) → Chained arcs a a 0 0
chain_starts arcs a = record { far = λ z k. omega arith }

-- the sum stays within a word
module _ (arcs : List ℕ) (w p sum turn b : ℕ) (eb : b ≡ bound_at arcs (p * 9 + w)) (le : sum ≤ turn * 33554432) where
  pub sum_adds : turn < 9 → Fits w64 (sum + b)
  unfolding bound_at
  sum_adds lt = omega arith

  pub sum_stays : sum + b ≤ (turn + 1) * 33554432
  unfolding bound_at
  sum_stays = omega arith

-- one bound more, from p to w
pub chain_more : (arcs : List ℕ) (w p a sum turn b : ℕ) → w < 9 → p < 9 → b ≡ bound_at arcs (p * 9 + w) → Chained arcs w a sum turn → Chained arcs p a (sum + b) (turn + 1)
chain_more arcs w p a sum turn b lw lp eb h = record { far = more }
  where
    more : (z : List ℕ) → KeepsTo arcs z 81 → value_at z p + (sum + b) ≤ value_at z a + (turn + 1) * raised
    more z k =
        let f = h.far z k in
        let q = k.at (p * 9 + w) (omega arith) in
        let ep : (p * 9 + w) / 9 ≡ p = omega arith in
        let ew : (p * 9 + w) % 9 ≡ w = omega arith in
        let vp = ap (value_at z) ep in
        let vw = ap (value_at z) ew in
        omega arith

pub chain_closes : (arcs : List ℕ) (w p a sum turn b : ℕ) → w < 9 → p < 9 → b ≡ bound_at arcs (p * 9 + w) → Chained arcs w a sum turn → p ≡ a → Says (ltb ((turn + 1) * 16777216) (sum + b)) (Empty arcs)
chain_closes arcs w p a sum turn b lw lp eb h e = record { then = λ t. record { none = never (ltb-true ((turn + 1) * 16777216) (sum + b) t) } }
  where
    never : (turn + 1) * 16777216 < sum + b → (z : List ℕ) → KeepsTo arcs z 81 → ⊥
    never lt z k =
        let f = (chain_more arcs w p a sum turn b lw lp eb h).far z k in
        let v = ap (value_at z) e in
        omega arith

pub says_empty : (arcs : List ℕ) (b : Bool) → Says b (Empty arcs) → b ≡ true → Says true (Empty arcs)
says_empty arcs b s e = record { then = λ t. s.then e }
