-- The range of a value, as held and as a number. A number that the reader has cut to its cap is out of every range.
use mathlib.Core.Path.{◌≡◌, refl, sym, ap, ◌∙◌}
use mathlib.Core.Bool.{Bool, true, false, not, and-false, true≢false}
use mathlib.Core.List.{List}
use Prim.Native.Nat.{ℕ, zero, suc, ◌+◌, ◌-◌, ◌≤◌, ◌<◌, min}
use native.Mathlib.Decide.{dec_le, dec_lt}
use native.Mathlib.Omega.{arith}
use lib.Dec.{leb}
use lib.IntN.{ℤ, pos, negsuc}
use lib.Signed.{le_z}
use borrow.Author.Tests.{lt-leb, not-true, not-false}
use Rattle.std.specs.Prelude.{Result, Ok, Err, Option, Some, None}
use Rattle.std.proofs.lemmas.Option.{none-some}
use Rattle.num_text.specs.declared.Number.{Number}
use Rattle.num_laws.proofs.Differences.{sub_up, sub_down, shift_order}
use Rattle.num_text.specs.Number.{Numeral, number, no_number}
use Rattle.num_text.specs.Held.{cap, held_number}
use Rattle.model.specs.Step.{Step, next, fault, check}
use Rattle.text_grammar.specs.Line.{Value, numbered}
use Rattle.text_grammar.specs.Line as line
use Rattle.text_grammar.proofs.FieldsText.{valued}
use Rattle.model.specs.Limits.{is_within}
use Rattle.model.specs.declared.Refusal.{Refusal}
use Rattle.text_line.specs.declared.Rule.{Rule as HeldRule}
use Rattle.text_line.specs.Held.{lowered}
use Rattle.text_line.specs.Layout.{range_of}
use Rattle.text_line.specs.Steps.{out_of_range, if_in_range, within}

-- ---- held values are ordered as the numbers are

lowered_above : (u v : ℕ) → u ≤ v → lowered u v ≡ pos (v - u)
lowered_above zero v h = ap pos (omega arith)
lowered_above (suc u) v h = sub_up v (suc u) h

lowered_below : (u v : ℕ) → v < u → lowered u v ≡ negsuc (u - suc v)
lowered_below zero v h = absurd (omega arith)
lowered_below (suc u) v h = sub_down v (suc u) h

lowered_order : (u a b : ℕ) → le_z (lowered u a) (lowered u b) ≡ leb a b
lowered_order zero a b = refl
lowered_order (suc u) a b = shift_order (suc u) a b

pub never : {A : Type 0} → true ≡ false → A
never e = absurd (true≢false e)

-- ---- the range test of the program is that of the rule

-- the number z, where its test passes
abbrev pub ranged : Bool → ℤ → Step Value
ranged b z = check b 4 (next (line.number z))

module _ (r : HeldRule) (k : r.most < cap) (more : Step (List Value)) where
  held_range : (z : ℤ) (v : ℕ) → z ≡ lowered r.up v → valued (ranged (is_within (range_of r) z) z) more ≡ valued (ranged (within r v) (lowered r.up v)) more
  held_range z v e = rw (e, lowered_order r.up r.least v, lowered_order r.up v r.most)

  raised : (n : ℕ) → pos n ≡ lowered r.up (r.up + n)
  raised n = sym (lowered_above r.up (r.up + n) (omega arith) ∙ ap pos (omega arith))

  -- all numbers above the cap are out of range alike
  cut_range : (n m : ℕ) → m ≡ min cap n → valued (ranged (is_within (range_of r) (pos n)) (pos n)) more ≡ valued (ranged (within r (r.up + m)) (lowered r.up (r.up + m))) more
  cut_range n m e = held_range (pos n) (r.up + n) (raised n) ∙ by (dec_le n cap)
    where
      by : Dec (n ≤ cap) → valued (ranged (within r (r.up + n)) (lowered r.up (r.up + n))) more ≡ valued (ranged (within r (r.up + m)) (lowered r.up (r.up + m))) more
      by (yes h) = ap (λ (x : ℕ). valued (ranged (within r (r.up + x)) (lowered r.up (r.up + x))) more) (omega arith)
      by (no h) = rw (lt-leb (r.up + n) r.most (omega arith), lt-leb (r.up + m) r.most (omega arith)) (simp and-false)

  pub no_number_held : (q : Numeral) → None ≡ held_number q → valued (numbered q (range_of r)) more ≡ fault 3
  no_number_held (number (pos n)) e = absurd (none-some _ e)
  no_number_held (number (negsuc n)) e = absurd (none-some _ e)
  no_number_held no_number e = refl

  -- the parts of an answer, 0 where there is none
  size : Option Number → ℕ
  size (Some o) = o.magnitude
  size None = 0

  sign : Option Number → Bool
  sign (Some o) = o.negative
  sign None = false

  pub positive_held : (q : Numeral) (m : ℕ) → Some (record { negative = false; magnitude = m }) ≡ held_number q → valued (numbered q (range_of r)) more ≡ valued (ranged (within r (r.up + m)) (lowered r.up (r.up + m))) more
  unfolding size sign
  positive_held (number (pos n)) m e = cut_range n m (ap size e)
  positive_held (number (negsuc n)) m e = never (sym (ap sign e))
  positive_held no_number m e = absurd (none-some _ (sym e))

  -- a number below 0 that is held
  pub negative_held : (q : Numeral) (m : ℕ) → Some (record { negative = true; magnitude = m }) ≡ held_number q → r.up ≤ 4096 → m ≤ r.up → valued (numbered q (range_of r)) more ≡ valued (ranged (within r (r.up - m)) (lowered r.up (r.up - m))) more
  unfolding size sign
  negative_held (number (pos n)) m e u h = never (ap sign e)
  negative_held (number (negsuc n)) m e u h =
      let c : m ≡ min cap (suc n) = ap size e in
      held_range (negsuc n) (r.up - m) (sym (lowered_below r.up (r.up - m) (omega arith) ∙ ap negsuc (omega arith)))
  negative_held no_number m e u h = never (ap sign e)

  -- and one that is too far below
  far_below : (n : ℕ) → r.up ≤ n → le_z (lowered r.up r.least) (negsuc n) ≡ false
  far_below n h = by (dec_lt r.least r.up)
    where
      by : Dec (r.least < r.up) → le_z (lowered r.up r.least) (negsuc n) ≡ false
      by (yes l) = rw (lowered_below r.up r.least l, lt-leb n (r.up - suc r.least) (omega arith))
      by (no l) = rw (lowered_above r.up r.least (omega arith))

  pub below_held : (q : Numeral) (m : ℕ) → Some (record { negative = true; magnitude = m }) ≡ held_number q → r.up < m → valued (numbered q (range_of r)) more ≡ fault 4
  unfolding size sign
  below_held (number (pos n)) m e h = never (ap sign e)
  below_held (number (negsuc n)) m e h = let c : m ≡ min cap (suc n) = ap size e in rw (far_below n (omega arith))
  below_held no_number m e h = never (ap sign e)
