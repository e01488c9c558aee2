-- Differences of natural numbers, as integers: their order, sums and multiples.
use Prim.Native.Nat.{ℕ, zero, suc, ◌+◌, ◌-◌, ◌*◌, ◌≤◌, ◌<◌}
use mathlib.Core.Path.{◌≡◌, refl, sym, ap, subst, ◌∙◌}
use native.Mathlib.Decide.{dec_le, dec_lt}
use native.Mathlib.Omega.{arith}
use lib.IntN.{ℤ, pos, negsuc, neg_ℤ, ◌+ℤ◌, ◌-ℤ◌, ◌*ℤ◌, sub_ℕ, +ℤ_assoc, +ℤ_comm, neg_ℤ-+ℤ, neg_ℤ-neg_ℤ}
use lib.Dec.{leb}
use lib.Signed.{le_z}
use borrow.Author.Tests.{le-ltb, lt-ltb, le-leb, lt-leb}

pub sub_up : (a b : ℕ) → b ≤ a → sub_ℕ a b ≡ pos (a - b)
sub_up a b h = rw (le-ltb a b h)

pub sub_down : (a b : ℕ) → a < b → sub_ℕ a b ≡ negsuc (b - suc a)
sub_down a b h = rw (lt-ltb a b h)

-- tests of two numbers that agree
leb_same : (a b c d : ℕ) → (a ≤ b → c ≤ d) → (c ≤ d → a ≤ b) → leb a b ≡ leb c d
leb_same a b c d f g = by (dec_le a b)
  where
    by : Dec (a ≤ b) → leb a b ≡ leb c d
    by (yes h) = rw (le-leb a b h, le-leb c d (f h))
    by (no n) = by_other (dec_le c d) n
      where
        by_other : Dec (c ≤ d) → (a ≤ b → ⊥) → leb a b ≡ leb c d
        by_other (yes k) m = absurd (m (g k))
        by_other (no k) m = rw (lt-leb a b (omega arith), lt-leb c d (omega arith))

-- a shift keeps the order
pub shift_order : (b p q : ℕ) → le_z (sub_ℕ p b) (sub_ℕ q b) ≡ leb p q
shift_order b p q = by (dec_lt p b) (dec_lt q b)
  where
    by : Dec (p < b) → Dec (q < b) → le_z (sub_ℕ p b) (sub_ℕ q b) ≡ leb p q
    by (yes h) (yes k) = rw (sub_down p b h, sub_down q b k) (leb_same (b - suc q) (b - suc p) p q (λ l. omega arith) (λ l. omega arith))
    by (yes h) (no k) = rw (sub_down p b h, sub_up q b (omega arith), le-leb p q (omega arith))
    by (no h) (yes k) = rw (sub_up p b (omega arith), sub_down q b k, lt-leb p q (omega arith))
    by (no h) (no k) = rw (sub_up p b (omega arith), sub_up q b (omega arith)) (leb_same (p - b) (q - b) p q (λ l. omega arith) (λ l. omega arith))

-- a - b as a sum
pub sub_sum : (a b : ℕ) → sub_ℕ a b ≡ pos a -ℤ pos b
sub_sum a zero = sub_up a 0 (omega arith) ∙ ap (λ (t : ℕ). pos t) (omega arith)
sub_sum a (suc b) = refl

pub neg_sub : (a b : ℕ) → neg_ℤ (sub_ℕ a b) ≡ sub_ℕ b a
neg_sub a b =
    ap neg_ℤ (sub_sum a b) ∙ neg_ℤ-+ℤ (pos a) (neg_ℤ (pos b)) ∙ ap (λ (z : ℤ). neg_ℤ (pos a) +ℤ z) (neg_ℤ-neg_ℤ (pos b)) ∙ +ℤ_comm (neg_ℤ (pos a)) (pos b) ∙ sym (sub_sum b a)

four : (a b c d : ℤ) → (a +ℤ b) +ℤ (c +ℤ d) ≡ (a +ℤ c) +ℤ (b +ℤ d)
four a b c d =
    +ℤ_assoc a b (c +ℤ d)
    ∙ ap (λ (z : ℤ). a +ℤ z) (sym (+ℤ_assoc b c d) ∙ ap (λ (z : ℤ). z +ℤ d) (+ℤ_comm b c) ∙ +ℤ_assoc c b d)
    ∙ sym (+ℤ_assoc a c (b +ℤ d))

pub add_sub : (a b c d : ℕ) → sub_ℕ a b +ℤ sub_ℕ c d ≡ sub_ℕ (a + c) (b + d)
add_sub a b c d =
    ap (λ (z : ℤ). z +ℤ sub_ℕ c d) (sub_sum a b) ∙ ap (λ (z : ℤ). (pos a -ℤ pos b) +ℤ z) (sub_sum c d)
    ∙ four (pos a) (neg_ℤ (pos b)) (pos c) (neg_ℤ (pos d))
    ∙ ap (λ (z : ℤ). pos (a + c) +ℤ z) (sym (neg_ℤ-+ℤ (pos b) (pos d)))
    ∙ sym (sub_sum (a + c) (b + d))

neg_times : (z : ℤ) (x : ℕ) → neg_ℤ z *ℤ pos x ≡ neg_ℤ (z *ℤ pos x)
neg_times (pos zero) x = let e : 0 * x ≡ 0 = omega arith in rw e
neg_times (pos (suc k)) x = refl
neg_times (negsuc k) x = sym (neg_ℤ-neg_ℤ (pos (suc k * x)))

up_times : (q m x : ℕ) → sub_ℕ (m + q) m *ℤ pos x ≡ sub_ℕ ((m + q) * x) (m * x)
up_times q m x =
    let d : m + q - m ≡ q = omega arith in
    let e : q * x ≡ (m + q) * x - m * x = omega arith in
    ap (λ (z : ℤ). z *ℤ pos x) (sub_up (m + q) m (omega arith) ∙ ap (λ (t : ℕ). pos t) d)
    ∙ ap (λ (t : ℕ). pos t) e
    ∙ sym (sub_up ((m + q) * x) (m * x) (omega arith))

up_by : (p m x : ℕ) → m ≤ p → sub_ℕ p m *ℤ pos x ≡ sub_ℕ (p * x) (m * x)
up_by p m x h = let e : m + (p - m) ≡ p = omega arith in subst (λ (t : ℕ). sub_ℕ t m *ℤ pos x ≡ sub_ℕ (t * x) (m * x)) e (up_times (p - m) m x)

pub times_sub : (p m x : ℕ) → sub_ℕ p m *ℤ pos x ≡ sub_ℕ (p * x) (m * x)
times_sub p m x = by (dec_le m p)
  where
    by : Dec (m ≤ p) → sub_ℕ p m *ℤ pos x ≡ sub_ℕ (p * x) (m * x)
    by (yes h) = up_by p m x h
    by (no h) = ap (λ (z : ℤ). z *ℤ pos x) (sym (neg_sub m p)) ∙ neg_times (sub_ℕ m p) x ∙ ap neg_ℤ (up_by m p x (omega arith)) ∙ neg_sub (m * x) (p * x)
