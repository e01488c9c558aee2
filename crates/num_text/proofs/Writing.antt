-- The steps of the writers: one byte, the next byte of a text, the last digit, the sign.
use mathlib.Core.Path.{◌≡◌}
use mathlib.Core.List.{List, [], ◌∷◌}
use Prim.Native.Nat.{ℕ, suc, ◌+◌, ◌-◌, ◌/◌, ◌%◌, ◌^◌, ◌≤◌, ◌<◌}
use native.Mathlib.Numerals.{add-one}
use native.Mathlib.Omega.{arith}
use borrow.Author.Tests.{lt-ltb, le-ltb}
use lib.IntN.{sub_ℕ}
use lib.ListN.{length, get_or, take}
use lib.Seq.{take_all, take-suc}
use Rattle.num_text.specs.Number.{digits, number_text}
use Rattle.num_text.specs.Held.{Wrote}
use Rattle.num_text.proofs.Digits.{digits_small, digits_large}
use Rattle.num_text.proofs.Wrote.{wrote_then}

pub byte_more : (b m a s : List ℕ) (i at k r : ℕ) → length b < 2 ^ 64 → i < length s → Wrote b m (take i s) at k → Wrote m a (get_or s i 0 ∷ []) k r → Wrote b a (take (i + 1) s) at r
byte_more b m a s i at k r f h p q = rw (add-one, take-suc s i 0 h) (wrote_then b m a _ _ at k r f p q)

pub all_written : (b a s : List ℕ) (i at k : ℕ) → length s ≤ i → Wrote b a (take i s) at k → Wrote b a s at k
all_written b a s i at k h w = rw (take_all i s h) at w

pub digit_written : (b a : List ℕ) (at n r : ℕ) → n < 10 → Wrote b a ((48 + n) ∷ []) at r → Wrote b a (digits n) at r
digit_written b a at n r h w = rw (digits_small n h) w

below : (n z : ℕ) → n < z → number_text (sub_ℕ n z) ≡ 45 ∷ digits (z - n)
below n z h = let e : suc (z - suc n) ≡ z - n = omega arith in rw (lt-ltb n z h, e)

above : (n z : ℕ) → z ≤ n → number_text (sub_ℕ n z) ≡ digits (n - z)
above n z h = rw (le-ltb n z h)

module _ (b m a : List ℕ) (at k r n : ℕ) (f : length b < 2 ^ 64) where
  pub last_written : 10 ≤ n → Wrote b m (digits (n / 10)) at k → Wrote m a ((48 + n % 10) ∷ []) k r → Wrote b a (digits n) at r
  last_written h p q = rw (digits_large n h) (wrote_then b m a _ _ at k r f p q)

  pub below_written : (z : ℕ) → n < z → Wrote b m (45 ∷ []) at k → Wrote m a (digits (z - n)) k r → Wrote b a (number_text (sub_ℕ n z)) at r
  below_written z h p q = rw (below n z h) (wrote_then b m a (45 ∷ []) _ at k r f p q)

pub above_written : (b a : List ℕ) (at r n z : ℕ) → z ≤ n → Wrote b a (digits (n - z)) at r → Wrote b a (number_text (sub_ℕ n z)) at r
above_written b a at r n z h w = rw (above n z h) w
