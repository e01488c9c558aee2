-- Laws of sums by their terms: terms that are 0, one term, and a limit of all terms.
use mathlib.Core.Path.{◌≡◌, refl, sym, ap}
use Prim.Native.Nat.{ℕ, zero, suc, ◌+◌, ◌*◌, ◌≤◌, ◌<◌}
use native.Mathlib.Nat.{le_antisymm}
use native.Mathlib.Decide.{ℕ_discrete}
use native.Mathlib.Omega.{arith}
use Rattle.num_laws.specs.Sum.{sum}
use Rattle.num_laws.proofs.Sums.{sum_grows}

-- terms past n that are 0
pub sum_stop : (f : ℕ → ℕ) (n m : ℕ) → n ≤ m → ((i : ℕ) → n ≤ i → i < m → f i ≡ 0) → sum f m ≡ sum f n
unfolding sum
sum_stop f n zero l h = ap (sum f) (le_antisymm (omega arith) l)
sum_stop f n (suc m) l h = by (ℕ_discrete n (suc m)) (λ k. sum_stop f n m k (λ i a b. h i a (omega arith)))
  where
    by : Dec (n ≡ suc m) → (n ≤ m → sum f m ≡ sum f n) → sum f m + f m ≡ sum f n
    by (yes e) ih = sym (ap (sum f) e)
    by (no q) ih = let p = ih (omega arith) in let z = h m (omega arith) (omega arith) in omega arith

-- all terms are 0
pub sum_none : (f : ℕ → ℕ) (n : ℕ) → ((i : ℕ) → i < n → f i ≡ 0) → sum f n ≡ 0
unfolding sum
sum_none f zero h = refl
sum_none f (suc n) h = let p = sum_none f n (λ i l. h i (omega arith)) in let q = h n (omega arith) in omega arith

-- all terms but two neighbours are 0
pub sum_two : (f : ℕ → ℕ) (n p : ℕ) → suc p < n → ((i : ℕ) → (i ≡ p → ⊥) → (i ≡ suc p → ⊥) → f i ≡ 0) → sum f n ≡ f p + f (suc p)
unfolding sum
sum_two f n p l h =
    let a = sum_stop f (suc (suc p)) n l (λ i b c. h i (λ e. omega arith) (λ e. omega arith)) in
    let z = sum_none f p (λ i b. h i (λ e. omega arith) (λ e. omega arith)) in
    omega arith

-- a term is at most the sum
pub term_le : (f : ℕ → ℕ) (n i : ℕ) → i < n → f i ≤ sum f n
unfolding sum
term_le f n i l = let p = sum_grows f (suc i) n l in omega arith

-- a limit of the terms
pub sum_most_law : (f : ℕ → ℕ) (c n : ℕ) → ((i : ℕ) → i < n → f i ≤ c) → sum f n ≤ n * c
unfolding sum
sum_most_law f c zero h = omega arith
sum_most_law f c (suc n) h = let p = sum_most_law f c n (λ i l. h i (omega arith)) in let q = h n (omega arith) in omega arith
