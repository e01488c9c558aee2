-- Laws of sums: order, addition, a change of one term, a term picked out.
use mathlib.Core.Path.{◌≡◌, refl, sym, subst}
use mathlib.Core.Bool.{Bool, true, false}
use Prim.Native.Nat.{ℕ, zero, suc, ◌+◌, ◌*◌, ◌≤◌, ◌<◌}
use native.Mathlib.Nat.{le_antisymm}
use native.Mathlib.Decide.{ℕ_discrete}
use native.Mathlib.Omega.{arith}
use lib.Dec.{eqb}
use borrow.Author.Tests.{eq-eqb, ne_eqb}
use Rattle.num_laws.specs.Sum.{sum, when}

pub when_zero : (t : Bool) → when t 0 ≡ 0
when_zero true = refl
when_zero false = refl

pub when_add : (t : Bool) (u v : ℕ) → when t (u + v) ≡ when t u + when t v
when_add true u v = refl
when_add false u v = refl

pub when_le : (t : Bool) (v : ℕ) → when t v ≤ v
when_le true v = omega arith
when_le false v = omega arith

-- terms below terms: a sum below a sum
pub sum_le : (f g : ℕ → ℕ) (n : ℕ) → ((i : ℕ) → i < n → f i ≤ g i) → sum f n ≤ sum g n
unfolding sum
sum_le f g zero h = omega arith
sum_le f g (suc n) h = let p = sum_le f g n (λ i l. h i (omega arith)) in let q = h n (omega arith) in omega arith

-- equal terms: equal sums
pub sum_eq : (f g : ℕ → ℕ) (n : ℕ) → ((i : ℕ) → i < n → f i ≡ g i) → sum f n ≡ sum g n
unfolding sum
sum_eq f g zero h = refl
sum_eq f g (suc n) h = let p = sum_eq f g n (λ i l. h i (omega arith)) in let q = h n (omega arith) in omega arith

-- a sum of sums of two terms
pub sum_add : (f g : ℕ → ℕ) (n : ℕ) → sum (λ i. f i + g i) n ≡ sum f n + sum g n
unfolding sum
sum_add f g zero = refl
sum_add f g (suc n) = let p = sum_add f g n in omega arith

-- sums that differ in one place
pub sum_change : (f g : ℕ → ℕ) (n i : ℕ) → i < n → ((j : ℕ) → (j ≡ i → ⊥) → f j ≡ g j) → sum f n + g i ≡ sum g n + f i
unfolding sum
sum_change f g zero i h o = absurd (omega arith)
sum_change f g (suc n) i h o = by (ℕ_discrete i n) (λ l. sum_change f g n i l o)
  where
    by : Dec (i ≡ n) → (i < n → sum f n + g i ≡ sum g n + f i) → sum f n + f n + g i ≡ sum g n + g n + f i
    by (yes e) ih = let p = sum_eq f g n (λ j l. o j (λ q. omega arith)) in rw e (omega arith)
    by (no e) ih = let p = ih (omega arith) in let q = o n (λ r. e (sym r)) in omega arith

-- the sum of zeros
pub sum_zero : (n : ℕ) → sum (λ i. 0) n ≡ 0
unfolding sum
sum_zero zero = refl
sum_zero (suc n) = let p = sum_zero n in omega arith

-- one term picked out
pub sum_pick : (x : ℕ → ℕ) (e v n : ℕ) → e < n → sum (λ k. x k * when (eqb e k) v) n ≡ x e * v
sum_pick x e v n h =
    let p = sum_change (λ k. x k * when (eqb e k) v) (λ k. 0) n e h (λ j o. rw (ne_eqb e j (λ q. o (sym q))) (omega arith)) in
    let z = sum_zero n in
    let q : x e * when (eqb e e) v ≡ x e * v = rw (eq-eqb e e refl) in
    omega arith

-- sums that are equal, term below term: each term is equal
pub sum_tight : (f g : ℕ → ℕ) (n : ℕ) → ((i : ℕ) → i < n → f i ≤ g i) → sum g n ≤ sum f n → (i : ℕ) → i < n → f i ≡ g i
unfolding sum
sum_tight f g zero h e i l = absurd (omega arith)
sum_tight f g (suc n) h e i l = by (ℕ_discrete i n) (λ k. sum_tight f g n (λ j m. h j (omega arith)) (let a = h n (omega arith) in omega arith) i k)
  where
    by : Dec (i ≡ n) → (i < n → f i ≡ g i) → f i ≡ g i
    by (yes q) ih = let a = sum_le f g n (λ j m. h j (omega arith)) in let b = h n (omega arith) in rw q (omega arith)
    by (no q) ih = ih (omega arith)

-- a sum over more terms is no smaller
pub sum_grows : (w : ℕ → ℕ) (i c : ℕ) → i ≤ c → sum w i ≤ sum w c
unfolding sum
sum_grows w i zero l = rw (le_antisymm l (omega arith)) (omega arith)
sum_grows w i (suc c) l = by (ℕ_discrete i (suc c)) (λ k. sum_grows w i c k)
  where
    by : Dec (i ≡ suc c) → (i ≤ c → sum w i ≤ sum w c) → sum w i ≤ sum w c + w c
    by (yes e) ih = subst (λ (k : ℕ). sum w k ≤ sum w c + w c) (sym e) (omega arith)
    by (no n) ih = let a = ih (omega arith) in omega arith

-- a sum by its first term
pub sum_first : (f : ℕ → ℕ) (n : ℕ) → sum f (suc n) ≡ f 0 + sum (λ i. f (suc i)) n
unfolding sum
sum_first f zero = omega arith
sum_first f (suc n) = let p = sum_first f n in omega arith
