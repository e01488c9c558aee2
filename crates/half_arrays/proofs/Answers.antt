-- Answers of tests: yes says that a statement holds.
use Prim.Native.Nat.{ℕ}
use mathlib.Core.Path.{◌≡◌}
use mathlib.Core.Bool.{Bool, true, false, not}
use native.Mathlib.Omega.{arith}
use borrow.Author.Tests.{not-false}
use Rattle.half_arrays.specs.Says.{Says}

pub says_no : (P : Type 0) → Says false P
says_no P = record { then = λ e. absurd (by e) }
  where
    by : ◌≡◌ {A = Bool} false true → ⊥
    by e = let z : ◌≡◌ {A = ℕ} 0 1 = cc in omega arith

-- past the test
pub said : {P : Type 0} (b : Bool) → Says b P → not b ≡ false → P
said b s e = s.then (not-false b e)
