-- What a text stands for, by its first byte.
use mathlib.Core.Path.{◌≡◌, refl}
use mathlib.Core.Bool.{and-true}
use mathlib.Core.List.{List, [], ◌∷◌}
use Prim.Native.Nat.{ℕ, ◌≤◌, ◌<◌}
use native.Mathlib.Decide.{dec_le}
use native.Mathlib.Omega.{arith}
use lib.ListN.{length, get_or}
use borrow.Author.Tests.{le-leb, lt-leb, eq-eqb, ne_eqb}
use Rattle.num_text.specs.Number.{is_digit, all_of, value_from, plain, natural, negative, numeral_of}
use Rattle.num_text.specs.Steps.{all_digits}

-- a text with no 0 first is plain where it has digits only
pub plain_all : (s : List ℕ) → (length s ≡ 0 → ⊥) → (get_or s 0 0 ≡ 48 → ⊥) → plain s ≡ all_digits s
unfolding plain all_of
plain_all [] n h = absurd (n refl)
plain_all (b ∷ []) n h = rw (and-true (is_digit b))
plain_all (b ∷ (c ∷ s)) n h = by (dec_le 49 b)
  where
    by : Dec (49 ≤ b) → plain (b ∷ (c ∷ s)) ≡ all_digits (b ∷ (c ∷ s))
    by (yes p) = rw (le-leb 49 b p)
    by (no q) = let l : b < 48 = omega arith in rw (lt-leb 48 b l, lt-leb 49 b (omega arith))

pub no_sign : (s : List ℕ) → (length s ≡ 0 → ⊥) → (get_or s 0 0 ≡ 45 → ⊥) → numeral_of s ≡ natural (plain s) (value_from 0 s)
unfolding numeral_of
no_sign [] n h = absurd (n refl)
no_sign (b ∷ s) n h = rw (ne_eqb b 45 h)

pub after_sign : (b : ℕ) (s : List ℕ) → b ≡ 45 → numeral_of (b ∷ s) ≡ negative (plain s) (value_from 0 s)
unfolding numeral_of
after_sign b s h = rw (eq-eqb b 45 h)
