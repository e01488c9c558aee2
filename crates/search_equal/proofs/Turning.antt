-- Pins with two macros exchanged, in the form of the needs.
use Prim.Native.Nat.{ℕ, zero, suc, ◌+◌}
use mathlib.Core.Path.{◌≡◌, refl}
use native.Mathlib.Omega.{arith}
use borrow.Author.Tests.{eq-eqb, ne_eqb}
use Rattle.search_halves.specs.Exchange.{turned, renumbered}

-- ---- a macro's number

pub first_turns : (i j m : ℕ) → m ≡ i + 1 → j + 1 ≡ renumbered i j m
unfolding turned
first_turns i j zero e = absurd (omega arith)
first_turns i j (suc m) e = rw (eq-eqb m i (omega arith)) (omega arith)

pub second_turns : (i j m : ℕ) → (m ≡ i + 1 → ⊥) → m ≡ j + 1 → i + 1 ≡ renumbered i j m
unfolding turned
second_turns i j zero o e = absurd (omega arith)
second_turns i j (suc m) o e = rw (ne_eqb m i (λ q. o (omega arith)), eq-eqb m j (omega arith)) (omega arith)

pub other_stays : (i j m : ℕ) → (m ≡ i + 1 → ⊥) → (m ≡ j + 1 → ⊥) → m ≡ renumbered i j m
unfolding turned
other_stays i j zero o q = refl
other_stays i j (suc m) o q = rw (ne_eqb m i (λ e. o (omega arith)), ne_eqb m j (λ e. q (omega arith)))
