-- The length of a list of numbers against twice the number of corners, in the form of the needs.
use Prim.Native.Nat.{ℕ, ◌*◌, ◌/◌, ◌%◌, ◌<◌}
use mathlib.Core.Path.{◌≡◌, sym, ◌∙◌}
use mathlib.Core.List.{[], ◌∷◌}
use native.Mathlib.Decide.{dec_lt}
use native.Mathlib.Omega.{arith}
use lib.Dec.{ltb, eqb}
use borrow.Author.Tests.{lt-ltb, le-ltb, eq-eqb, ne_eqb}
use Rattle.refusals.specs.Tests.{test, first_failed}
use Rattle.refusals.proofs.FirstFailed.{none_failed, fails_here, fails_later}

module _ (length n : ℕ) where
  pub short_same : ltb (length / 2) n ≡ ltb length (2 * n)
  short_same = by (dec_lt (length / 2) n)
    where
      by : Dec (length / 2 < n) → ltb (length / 2) n ≡ ltb length (2 * n)
      by (yes h) = lt-ltb (length / 2) n h ∙ sym (lt-ltb length (2 * n) (omega arith))
      by (no h) = le-ltb (length / 2) n (omega arith) ∙ sym (le-ltb length (2 * n) (omega arith))

  pub half_other : (length / 2 ≡ n → ⊥) → 13 ≡ first_failed (test 13 (eqb length (2 * n)) ∷ [])
  half_other h = fails_here 13 _ _ (ne_eqb length (2 * n) (λ e. h (omega arith)))

  pub one_over : (length % 2 ≡ 0 → ⊥) → 13 ≡ first_failed (test 13 (eqb length (2 * n)) ∷ [])
  one_over h = fails_here 13 _ _ (ne_eqb length (2 * n) (λ e. h (omega arith)))

  pub two_each : length / 2 ≡ n → length % 2 ≡ 0 → 0 ≡ first_failed (test 13 (eqb length (2 * n)) ∷ [])
  two_each h e = fails_later 13 _ _ 0 (eq-eqb length (2 * n) (omega arith)) none_failed
