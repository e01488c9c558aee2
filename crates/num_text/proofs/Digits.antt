-- The digits of a number by its last one: `digits_small`, `digits_large`, and induction along them.
use mathlib.Core.Path.{◌≡◌, sym, ◌∙◌}
use mathlib.Core.List.{[], ◌∷◌, ◌++◌}
use Prim.Native.Nat.{ℕ, zero, suc, ◌+◌, ◌/◌, ◌%◌, ◌≤◌, ◌<◌}
use native.Mathlib.Decide.{dec_lt}
use native.Mathlib.Omega.{arith}
use borrow.Author.Tests.{lt-ltb, le-ltb}
use Rattle.num_text.specs.Number.{digits_in, digits}

small_in : (k n : ℕ) → n < 10 → digits_in (suc k) n ≡ (48 + n) ∷ []
unfolding digits_in
small_in k n h = rw (lt-ltb _ _ h, digits_in)

large_in : (k n : ℕ) → 10 ≤ n → digits_in (suc k) n ≡ digits_in k (n / 10) ++ ((48 + n % 10) ∷ [])
unfolding digits_in
large_in k n h = rw (le-ltb _ _ h, digits_in)

-- any room above n gives the same digits
enough : (j k n : ℕ) → n < j → n < k → digits_in j n ≡ digits_in k n
enough zero k n p q = absurd (omega arith)
enough (suc j) zero n p q = absurd (omega arith)
enough (suc j) (suc k) n p q = by (dec_lt n 10) (enough j k (n / 10))
  where
    by : Dec (n < 10) → (n / 10 < j → n / 10 < k → digits_in j (n / 10) ≡ digits_in k (n / 10)) → digits_in (suc j) n ≡ digits_in (suc k) n
    by (yes s) ih = small_in j n s ∙ sym (small_in k n s)
    by (no l) ih = let g : 10 ≤ n = omega arith in rw (large_in j n g, large_in k n g, ih (omega arith) (omega arith))

pub digits_small : (n : ℕ) → n < 10 → digits n ≡ (48 + n) ∷ []
unfolding digits
digits_small n h = small_in n n h

pub digits_large : (n : ℕ) → 10 ≤ n → digits n ≡ digits (n / 10) ++ ((48 + n % 10) ∷ [])
unfolding digits
digits_large n h = rw (large_in n n h, enough n (suc (n / 10)) (n / 10) (omega arith) (omega arith))

-- what holds below 10, and of n where it holds of n / 10, holds of every number
module _ (P : ℕ → Type 0) (small : (n : ℕ) → n < 10 → P n) (large : (n : ℕ) → 10 ≤ n → P (n / 10) → P n) where
  below : (k n : ℕ) → n < k → P n
  below zero n h = absurd (omega arith)
  below (suc k) n h = one (dec_lt n 10) (below k (n / 10))
    where
      one : Dec (n < 10) → (n / 10 < k → P (n / 10)) → P n
      one (yes s) ih = small n s
      one (no l) ih = large n (omega arith) (ih (omega arith))

  pub by_digits : (n : ℕ) → P n
  by_digits n = below (suc n) n (omega arith)
