-- The steps of the number reader: a minus sign, or none.
use mathlib.Core.Path.{◌≡◌, refl, sym}
use mathlib.Core.Bool.{Bool, true, false}
use mathlib.Core.Logic.{◌⊎◌, inl, inr}
use mathlib.Core.List.{List, [], ◌∷◌}
use Prim.Native.Nat.{ℕ, zero, suc, ◌-◌, ◌≤◌, ◌<◌, min}
use native.Mathlib.Omega.{arith}
use lib.ListN.{length, get_or, drop, take}
use lib.Seq.{take_all}
use Rattle.std.specs.Prelude.{Option, Some, None}
use Rattle.num_text.specs.declared.Number.{Number}
use Rattle.num_text.specs.Number.{value_from, plain, natural, negative, numeral_of}
use Rattle.num_text.specs.Held.{cap, held_number}
use Rattle.num_text.specs.Steps.{capped, held_natural}
use Rattle.num_text.proofs.FirstByte.{no_sign, after_sign}

-- the answer after a minus sign, and without one, by the magnitude that was read
signed : Option ℕ → Option Number
signed (Some zero) = None
signed (Some (suc m)) = Some (record { negative = true; magnitude = suc m })
signed None = None

unsigned : Option ℕ → Option Number
unsigned (Some m) = Some (record { negative = false; magnitude = m })
unsigned None = None

above_zero : (m : ℕ) → (m ≡ 0 → ⊥) → signed (Some m) ≡ Some (record { negative = true; magnitude = m })
unfolding signed
above_zero zero h = absurd (h refl)
above_zero (suc m) h = refl

negative_held : (p : Bool) (n : ℕ) → held_number (negative p n) ≡ signed (capped p n)
unfolding signed
negative_held true zero = refl
negative_held true (suc n) = sym (above_zero (min cap (suc n)) (λ e. omega arith))
negative_held false n = refl

natural_held : (p : Bool) (n : ℕ) → held_number (natural p n) ≡ unsigned (capped p n)
unfolding unsigned
natural_held true n = refl
natural_held false n = refl

module _ (s : List ℕ) (n : 1 ≤ length s) (h : get_or s 0 0 ≡ 45) where
  after_minus : held_number (numeral_of s) ≡ signed (held_natural (take (length s - 1) (drop 1 s)))
  unfolding held_natural
  after_minus = by s n h
    where
      by : (s : List ℕ) → 1 ≤ length s → get_or s 0 0 ≡ 45 → held_number (numeral_of s) ≡ signed (held_natural (take (length s - 1) (drop 1 s)))
      by [] n h = absurd (omega arith)
      by (b ∷ t) n h = rw (after_sign b t h, take_all (length (b ∷ t) - 1) t (omega arith)) (negative_held (plain t) (value_from 0 t))

  pub minus_none : None ≡ held_natural (take (length s - 1) (drop 1 s)) → None ≡ held_number (numeral_of s)
  unfolding signed
  minus_none e = rw (after_minus, ← e)

  module _ (m : ℕ) (e : Some m ≡ held_natural (take (length s - 1) (drop 1 s))) where
    pub minus_zero : m ≡ 0 → None ≡ held_number (numeral_of s)
    unfolding signed
    minus_zero z = rw (after_minus, ← e, z)

    pub minus_some : (m ≡ 0 → ⊥) → Some (record { negative = true; magnitude = m }) ≡ held_number (numeral_of s)
    minus_some z = rw (after_minus, ← e) (sym (above_zero m z))

module _ (s : List ℕ) (h : (length s < 1) ⊎ (get_or s 0 0 ≡ 45 → ⊥)) where
  no_minus : held_number (numeral_of s) ≡ unsigned (held_natural s)
  unfolding held_natural numeral_of plain unsigned
  no_minus = by s h
    where
      by : (s : List ℕ) → (length s < 1) ⊎ (get_or s 0 0 ≡ 45 → ⊥) → held_number (numeral_of s) ≡ unsigned (held_natural s)
      by [] h = refl
      by (b ∷ s) (inl n) = absurd (omega arith)
      by (b ∷ s) (inr h) = rw (no_sign (b ∷ s) (λ e. omega arith) h) (natural_held (plain (b ∷ s)) (value_from 0 (b ∷ s)))

  pub plain_none : None ≡ held_natural s → None ≡ held_number (numeral_of s)
  unfolding unsigned
  plain_none e = rw (no_minus, ← e)

  pub plain_some : (m : ℕ) → Some m ≡ held_natural s → Some (record { negative = false; magnitude = m }) ≡ held_number (numeral_of s)
  unfolding unsigned
  plain_some m e = rw (no_minus, ← e)
