-- The first test that fails, one test after the other.
use Prim.Native.Nat.{ℕ, zero, suc}
use mathlib.Core.Path.{◌≡◌, refl, ap}
use mathlib.Core.Bool.{Bool, true, false, cond}
use mathlib.Core.List.{List, [], ◌∷◌, ◌++◌}
use native.Mathlib.Omega.{arith}
use Rattle.refusals.specs.Tests.{Test, test, first_failed, unless_failed}

pub none_failed : 0 ≡ first_failed []
unfolding first_failed
none_failed = refl

-- the answer of code that tests one after the other
module _ (n : ℕ) (b : Bool) (ts : List Test) where
  pub fails_here : b ≡ false → n ≡ first_failed (test n b ∷ ts)
  unfolding first_failed
  fails_here e = rw e

  pub fails_later : (r : ℕ) → b ≡ true → r ≡ first_failed ts → r ≡ first_failed (test n b ∷ ts)
  unfolding first_failed
  fails_later r e q = rw e q

-- where no test fails, each passes
module _ (n : ℕ) (ts : List Test) where
  pub first_passes : (b : Bool) → first_failed (test (suc n) b ∷ ts) ≡ 0 → b ≡ true
  unfolding first_failed
  first_passes true e = refl
  first_passes false e = absurd (omega arith)

  pub rest_passes : (b : Bool) → first_failed (test (suc n) b ∷ ts) ≡ 0 → first_failed ts ≡ 0
  unfolding first_failed
  rest_passes true e = e
  rest_passes false e = absurd (omega arith)

-- a last test that passes changes nothing
pub passes_last : (ts : List Test) (n : ℕ) (b : Bool) → b ≡ true → first_failed (ts ++ (test n b ∷ [])) ≡ first_failed ts
unfolding first_failed
passes_last [] n b e = rw e
passes_last (t ∷ ts) n b e = ap (λ (k : ℕ). cond t.passes k t.number) (passes_last ts n b e)

-- the answer of a service that branches on the number
module _ {A : Type 0} (refusal : ℕ → ℕ → A) (more : A) where
  pub number_refused : (n : ℕ) → (n ≡ 0 → ⊥) → refusal n 0 ≡ unless_failed refusal n more
  number_refused zero h = absurd (h refl)
  number_refused (suc n) h = refl

  pub number_none : (n : ℕ) → n ≡ 0 → more ≡ unless_failed refusal n more
  number_none n e = rw e
