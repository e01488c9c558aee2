-- The steps of the reader of a text that has no sign: what its loop keeps, and each answer.
use mathlib.Core.Path.{◌≡◌, refl, ap}
use mathlib.Core.Bool.{Bool, true, false, and-true, and-false}
use mathlib.Core.Logic.{◌⊎◌, inl, inr}
use mathlib.Core.List.{List, [], ◌∷◌}
use Prim.Native.Nat.{ℕ, suc, ◌+◌, ◌-◌, ◌*◌, ◌≤◌, ◌<◌, min}
use native.Mathlib.Numerals.{add-one}
use native.Mathlib.Omega.{arith}
use lib.ListN.{length, get_or, drop, drop_of_length-le}
use lib.Seq.{drop-cons}
use borrow.Author.Tests.{le-leb, lt-leb}
use Rattle.std.specs.Prelude.{Option, Some, None}
use Rattle.std.specs.Char.{is_ascii_digit}
use Rattle.num_text.specs.Number.{all_of, value_from, plain}
use Rattle.num_text.specs.Held.{cap}
use Rattle.num_text.specs.Steps.{all_digits, push, capped, held_natural}
use Rattle.num_text.proofs.FirstByte.{plain_all}

-- the answer when the digits s are left and the value so far is v
pub held_from : List ℕ → ℕ → Option ℕ
held_from s v = capped (all_digits s) (value_from v s)

pub empty : (s : List ℕ) → length s ≡ 0 → None ≡ held_natural s
unfolding held_natural plain
empty [] h = refl
empty (b ∷ s) h = absurd (omega arith)

pub zero_first : (s : List ℕ) → get_or s 0 0 ≡ 48 → (length s ≡ 1 → ⊥) → None ≡ held_natural s
unfolding held_natural plain
zero_first [] h n = refl
zero_first (b ∷ []) h n = absurd (n refl)
zero_first (b ∷ (c ∷ s)) h n = rw h

pub begins : (s : List ℕ) → (length s ≡ 0 → ⊥) → ((get_or s 0 0 ≡ 48) × (length s ≡ 1)) ⊎ (get_or s 0 0 ≡ 48 → ⊥) → held_natural s ≡ held_from s 0
unfolding held_natural held_from plain all_of
begins s n (inr h) = rw (plain_all s n h)
begins [] n (inl h) = absurd (n refl)
begins (b ∷ []) n (inl h) = rw and-true
begins (b ∷ (c ∷ s)) n (inl h) = absurd (let l = h.1 in omega arith)

-- a value above the cap may be cut to the cap before the next digits
cut : (s : List ℕ) (a b : ℕ) → min cap a ≡ min cap b → min cap (value_from a s) ≡ min cap (value_from b s)
unfolding value_from
cut [] a b h = h
cut (x ∷ s) a b h = cut s (a * 10 + (x - 48)) (b * 10 + (x - 48)) (omega arith)

held_cut : (p : Bool) (a b : ℕ) → min cap a ≡ min cap b → capped p a ≡ capped p b
held_cut true a b h = ap Some h
held_cut false a b h = refl

module _ (s : List ℕ) (i v : ℕ) (inv : held_natural s ≡ held_from (drop i s) v) (h : i < length s) where
  pub no_digit : is_ascii_digit (get_or s i 0) ≡ false → None ≡ held_natural s
  unfolding held_from all_of
  no_digit e = rw (inv, drop-cons s i 0 h, e)

  pub digit_more : (r : ℕ) → r ≡ push v (get_or s i 0) → 48 ≤ get_or s i 0 → get_or s i 0 ≤ 57 → held_natural s ≡ held_from (drop (i + 1) s) r
  unfolding held_from all_of value_from
  digit_more r e lo hi = rw (inv, add-one, drop-cons s i 0 h, le-leb _ _ lo, le-leb _ _ hi) (held_cut (all_digits (drop (suc i) s)) _ _ (cut (drop (suc i) s) _ _ (omega arith)))

pub all_read : (s : List ℕ) (v : ℕ) → held_natural s ≡ held_from (drop (length s) s) v → v ≤ cap → Some v ≡ held_natural s
unfolding held_from all_of value_from
all_read s v inv k = rw (inv, drop_of_length-le s {i = length s} (omega arith)) (ap Some (omega arith))
