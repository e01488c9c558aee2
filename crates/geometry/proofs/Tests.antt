-- The tests of boxes, in the form of the needs of their functions.
use mathlib.Core.Path.{◌≡◌, sym, ◌∙◌}
use mathlib.Core.Bool.{Bool, true, false, not, ◌&&◌, ◌||◌}
use Prim.Native.Nat.{ℕ, ◌+◌, ◌-◌, ◌≤◌, ◌<◌}
use native.Mathlib.Decide.{dec_le}
use native.Mathlib.Omega.{arith}
use lib.Dec.{leb}
use borrow.Author.Tests.{le-leb, lt-leb, not-true, not-false}

-- a test that fails, or that is all that is left
module _ (p q : Bool) (r : Bool) (e : r ≡ p) where
  pub and_fails : not r ≡ true → false ≡ (p && q)
  and_fails h = rw (← e, not-true r h)

  pub and_rest : (x : Bool) → not r ≡ false → x ≡ q → x ≡ (p && q)
  and_rest x h f = rw (← e, not-false r h, f)
