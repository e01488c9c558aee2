-- A choice in a line, in the form of the needs of the functions that follow it; and that no number of a field stands for an absent one.
use mathlib.Core.Path.{◌≡◌, refl, ◌∙◌}
use mathlib.Core.Bool.{Bool, true, false, not, and-false}
use Prim.Native.Nat.{ℕ, ◌+◌, ◌-◌, ◌^◌, ◌≤◌, ◌<◌}
use native.Mathlib.Omega.{arith}
use lib.Dec.{eqb}
use borrow.Author.Tests.{eq-eqb, ne_eqb, not-true, not-false}
use Rattle.num_text.specs.Held.{cap}
use Rattle.text_grammar.specs.Choice.{rule_room, absent_held, name_fault, is_absent, next_place}

pub absent_is : (other : ℕ) → eqb other 0 ≡ false → is_absent other absent_held ≡ true
absent_is other h = rw h

-- what the fault of a name tells
module _ (other n : ℕ) (e : n ≡ name_fault other) where
  pub told_must : (n ≡ 0 → ⊥) → (n ≡ 2) × (eqb other 0 ≡ true)
  told_must z = by (eqb other 0) refl
    where
      by : (b : Bool) → eqb other 0 ≡ b → (n ≡ 2) × (eqb other 0 ≡ true)
      by true q = (e ∙ rw q, q)
      by false q = absurd (z (e ∙ rw q))

  pub told_may : n ≡ 0 → eqb other 0 ≡ false
  told_may z = by (eqb other 0) refl
    where
      by : (b : Bool) → eqb other 0 ≡ b → eqb other 0 ≡ false
      by true q = let c : n ≡ 2 = e ∙ rw q in absurd (omega arith)
      by false q = q

-- a place in a text is a value, and so is a number below the cap of the number reader
pub place_is : (other v : ℕ) → v < 2 ^ 63 → is_absent other v ≡ false
place_is other v h = rw (ne_eqb v absent_held (λ e. omega arith), and-false)

pub value_is : (other v : ℕ) → v < cap → is_absent other v ≡ false
value_is other v h = place_is other v (omega arith)
