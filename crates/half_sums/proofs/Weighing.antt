-- Sums of amounts, and of amounts times places and bounds.
use Prim.Native.Nat.{ℕ, zero, suc, ◌+◌, ◌*◌, ◌≤◌}
use mathlib.Core.Path.{◌≡◌, refl, ap}
use mathlib.Core.List.{List}
use native.Mathlib.Nat.{mul-le-mul}
use native.Mathlib.Numerals.{add-one}
use native.Mathlib.Omega.{arith}
use mir.Syntax.{w64}
use mir.Val.{Fits}
use Rattle.num_laws.specs.Sum.{sum}
use Rattle.flow_laws.specs.Flow.{weigh}
use Rattle.half_arrays.specs.State.{amount_at}
use Rattle.half_arrays.proofs.Ranges.{amount_most_law}

product_most : (a b : ℕ) → a ≤ 33554431 → b ≤ 65535 → a * b ≤ 2199023255552
product_most a b p q = let r : a * b ≤ 33554431 * 65535 = mul-le-mul p q in omega arith

module _ (a : ℕ → ℕ) (st : List ℕ) (o p : ℕ) (h : (c : ℕ) → a c ≤ 33554431) where
  pub weigh_most : (i : ℕ) → weigh a (amount_at st o p) i ≤ i * 2199023255552
  unfolding weigh sum
  weigh_most zero = omega arith
  weigh_most (suc i) = let q = weigh_most i in let r = product_most (a i) (amount_at st o p i) (h i) (amount_most_law st o p i) in omega arith

  weigh_next : (i : ℕ) → weigh a (amount_at st o p) (i + 1) ≡ weigh a (amount_at st o p) i + a i * amount_at st o p i
  unfolding weigh sum
  weigh_next i = rw (add-one i) refl

  pub product_fits : (i x y : ℕ) → x ≡ a i → y ≡ amount_at st o p i → Fits w64 (x * y)
  product_fits i x y ex ey = rw (ex, ey) (let r = product_most (a i) (amount_at st o p i) (h i) (amount_most_law st o p i) in omega arith)

  pub adds_fits : (i w x y : ℕ) → i ≤ 128 → w ≡ weigh a (amount_at st o p) i → x ≡ a i → y ≡ amount_at st o p i → Fits w64 (w + x * y)
  adds_fits i w x y l e ex ey = rw (ex, ey) (let q = weigh_most i in let r = product_most (a i) (amount_at st o p i) (h i) (amount_most_law st o p i) in omega arith)

  pub adds_more : (i w x y : ℕ) → w ≡ weigh a (amount_at st o p) i → x ≡ a i → y ≡ amount_at st o p i → w + x * y ≡ weigh a (amount_at st o p) (i + 1)
  adds_more i w x y e ex ey = rw (ex, ey) (let q = weigh_next i in omega arith)

  pub weighs_same : (i w y : ℕ) → w ≡ weigh a (amount_at st o p) i → y ≡ amount_at st o p i → y ≤ 0 → w ≡ weigh a (amount_at st o p) (i + 1)
  weighs_same i w y e ey z = let q = weigh_next i in let n : amount_at st o p i ≡ 0 = omega arith in let r = ap (λ (t : ℕ). a i * t) n in omega arith

pub weigh_none : (a f : ℕ → ℕ) → 0 ≡ weigh a f 0
unfolding weigh sum
weigh_none a f = refl

-- ---- without factors

module _ (st : List ℕ) (o p : ℕ) where
  pub sum_most_law : (i : ℕ) → sum (amount_at st o p) i ≤ i * 65535
  unfolding sum
  sum_most_law zero = omega arith
  sum_most_law (suc i) = let q = sum_most_law i in let r = amount_most_law st o p i in omega arith

  pub sum_next : (i : ℕ) → sum (amount_at st o p) (i + 1) ≡ sum (amount_at st o p) i + amount_at st o p i
  unfolding sum
  sum_next i = rw (add-one i) refl

pub sum_none : (f : ℕ → ℕ) → 0 ≡ sum f 0
unfolding sum
sum_none f = refl
