-- A number's text stands for it, and no other text does: `read_text_law`, `text_read`. The bytes of such a text: `text_bytes`.
use mathlib.Core.Path.{◌≡◌, refl, sym, ap, ◌∙◌}
use mathlib.Core.Bool.{Bool, true, false, ◌&&◌, false≢true}
use mathlib.Core.List.{List, [], ◌∷◌, ◌++◌, append-nil}
use Prim.Native.Nat.{ℕ, zero, suc, ◌+◌, ◌-◌, ◌*◌, ◌/◌, ◌%◌, ◌≤◌, ◌<◌}
use native.Mathlib.Nat.{zero-add}
use native.Mathlib.Decide.{ℕ_discrete}
use native.Mathlib.Omega.{arith}
use lib.Dec.{leb}
use lib.IntN.{ℤ, pos, negsuc}
use lib.ListN.{length, get_or}
use lib.Seq.{append_snoc}
use borrow.Author.Tests.{le-leb, leb-true}
use Rattle.num_text.specs.Number.{is_digit, all_of, value_from, plain, number, no_number, natural, negative, numeral_of, digits, digits_in, number_text}
use Rattle.num_text.specs.Steps.{all_digits}
use Rattle.num_text.proofs.FirstByte.{plain_all, no_sign, after_sign}
use Rattle.num_text.proofs.Digits.{digits_small, digits_large, by_digits}

and_l : (a b : Bool) → (a && b) ≡ true → a ≡ true
and_l true b e = refl
and_l false b e = e

and_r : (a b : Bool) → (a && b) ≡ true → b ≡ true
and_r true b e = e
and_r false b e = absurd (false≢true e)

all_snoc : (p : ℕ → Bool) (s : List ℕ) (b : ℕ) → all_of p s ≡ true → p b ≡ true → all_of p (s ++ (b ∷ [])) ≡ true
unfolding all_of
all_snoc p [] b h q = rw q
all_snoc p (x ∷ s) b h q = rw (and_l (p x) (all_of p s) h) (all_snoc p s b (and_r (p x) (all_of p s) h) q)

all_digits_law : (p : ℕ → Bool) → ((d : ℕ) → d < 10 → p (48 + d) ≡ true) → (n : ℕ) → all_of p (digits n) ≡ true
unfolding all_of
all_digits_law p d = by_digits (λ n. all_of p (digits n) ≡ true)
    (λ n h. rw (digits_small n h, d n h))
    (λ n h ih. rw (digits_large n h) (all_snoc p (digits (n / 10)) (48 + n % 10) ih (d (n % 10) (omega arith))))

pub text_bytes : (p : ℕ → Bool) → p 45 ≡ true → ((d : ℕ) → d < 10 → p (48 + d) ≡ true) → (z : ℤ) → all_of p (number_text z) ≡ true
unfolding all_of
text_bytes p m d (pos n) = all_digits_law p d n
text_bytes p m d (negsuc n) = rw m (all_digits_law p d (suc n))

digit : (d : ℕ) → d < 10 → is_digit (48 + d) ≡ true
digit d h = rw (le-leb 48 (48 + d) (omega arith), le-leb (48 + d) 57 (omega arith))

value_snoc : (a : ℕ) (s : List ℕ) (b : ℕ) → value_from a (s ++ (b ∷ [])) ≡ value_from a s * 10 + (b - 48)
unfolding value_from
value_snoc a [] b = refl
value_snoc a (x ∷ s) b = value_snoc (a * 10 + (x - 48)) s b

value : (n : ℕ) → value_from 0 (digits n) ≡ n
unfolding value_from
value = by_digits (λ n. value_from 0 (digits n) ≡ n)
    (λ n h. rw (digits_small n h) (omega arith))
    (λ n h ih. rw (digits_large n h, value_snoc 0 (digits (n / 10)) (48 + n % 10), ih) (omega arith))

lead_append : (s t : List ℕ) → 49 ≤ get_or s 0 0 → 49 ≤ get_or (s ++ t) 0 0
lead_append [] t h = absurd (omega arith)
lead_append (b ∷ s) t h = h

-- the first digit is no 0
lead : (n : ℕ) → 1 ≤ n → 49 ≤ get_or (digits n) 0 0
lead = by_digits (λ n. 1 ≤ n → 49 ≤ get_or (digits n) 0 0)
    (λ n h o. rw (digits_small n h) (omega arith))
    (λ n h ih o. rw (digits_large n h) (lead_append (digits (n / 10)) ((48 + n % 10) ∷ []) (ih (omega arith))))

-- so the digits of a number above 0 are plain, and have no sign
module _ (s : List ℕ) (h : 49 ≤ get_or s 0 0) where
  some : length s ≡ 0 → ⊥
  some = by s h
    where
      by : (s : List ℕ) → 49 ≤ get_or s 0 0 → length s ≡ 0 → ⊥
      by [] h e = omega arith
      by (b ∷ s) h e = omega arith

  plain_lead : all_digits s ≡ true → plain s ≡ true
  plain_lead a = plain_all s some (λ e. omega arith) ∙ a

  number_lead : numeral_of s ≡ natural (plain s) (value_from 0 s)
  number_lead = no_sign s some (λ e. omega arith)

plain_digits : (n : ℕ) → plain (digits (suc n)) ≡ true
plain_digits n = plain_lead (digits (suc n)) (lead (suc n) (omega arith)) (all_digits_law is_digit digit (suc n))

pub read_text_law : (z : ℤ) → numeral_of (number_text z) ≡ number z
unfolding numeral_of digits digits_in plain value_from
read_text_law (pos zero) = refl
read_text_law (pos (suc n)) = rw (number_lead (digits (suc n)) (lead (suc n) (omega arith)), plain_digits n, value (suc n))
read_text_law (negsuc n) = rw (plain_digits n, value (suc n))

module _ (b : ℕ) (d : is_digit b ≡ true) where
  not_below : 48 ≤ b
  not_below = leb-true _ _ (and_l (leb 48 b) (leb b 57) d)

  not_above : b ≤ 57
  not_above = leb-true _ _ (and_r (leb 48 b) (leb b 57) d)

  one_digit : digits (b - 48) ≡ b ∷ []
  one_digit = let lo = not_below in let hi = not_above in digits_small (b - 48) (omega arith) ∙ ap (λ (x : ℕ). x ∷ []) (omega arith)

-- digits after a number above 0 are the next digits of a larger one
digits_on : (s : List ℕ) (a : ℕ) → 1 ≤ a → all_digits s ≡ true → digits (value_from a s) ≡ digits a ++ s
unfolding value_from all_of
digits_on [] a o h = rw append-nil
digits_on (b ∷ s) a o h =
    let d : is_digit b ≡ true = and_l (is_digit b) (all_digits s) h in
    let lo = not_below b d in
    let hi = not_above b d in
    let n : ℕ = a * 10 + (b - 48) in
    let q : n / 10 ≡ a = omega arith in
    let r : 48 + n % 10 ≡ b = omega arith in
    digits_on s n (omega arith) (and_r (is_digit b) (all_digits s) h) ∙ rw (digits_large n (omega arith), q, r) (append_snoc (digits a) b s)

-- a plain text is the digits of its value
plain_text : (s : List ℕ) → plain s ≡ true → digits (value_from 0 s) ≡ s
unfolding plain value_from all_of
plain_text [] h = absurd (false≢true h)
plain_text (b ∷ []) h = rw zero-add (one_digit b h)
plain_text (b ∷ (c ∷ s)) h =
    let lo : 49 ≤ b = leb-true _ _ (and_l (leb 49 b) (all_digits (b ∷ (c ∷ s))) h) in
    let a : all_digits (b ∷ (c ∷ s)) ≡ true = and_r (leb 49 b) (all_digits (b ∷ (c ∷ s))) h in
    rw zero-add (digits_on (c ∷ s) (b - 48) (omega arith) (and_r (is_digit b) (all_digits (c ∷ s)) a)
    ∙ ap (λ (t : List ℕ). t ++ (c ∷ s)) (one_digit b (and_l (is_digit b) (all_digits (c ∷ s)) a)))

none : {A : Type 0} (z : ℤ) → no_number ≡ number z → A
none z h = absurd (let e : ◌≡◌ {A = ℕ} 0 1 = cc in omega arith)

natural_text : (s : List ℕ) (z : ℤ) (p : Bool) → plain s ≡ p → natural p (value_from 0 s) ≡ number z → s ≡ number_text z
natural_text s z true e h = let q : z ≡ pos (value_from 0 s) = cc in rw q (sym (plain_text s e))
natural_text s z false e h = none z h

negative_text : (s : List ℕ) (z : ℤ) (p : Bool) (n : ℕ) → plain s ≡ p → value_from 0 s ≡ n → negative p n ≡ number z → 45 ∷ s ≡ number_text z
negative_text s z true zero e f h = none z h
negative_text s z true (suc n) e f h = let q : z ≡ negsuc n = cc in rw (q, ← f, plain_text s e)
negative_text s z false n e f h = none z h

pub text_read : (s : List ℕ) (z : ℤ) → numeral_of s ≡ number z → s ≡ number_text z
unfolding numeral_of
text_read [] z h = none z h
text_read (b ∷ s) z h = by (ℕ_discrete b 45)
  where
    by : Dec (b ≡ 45) → b ∷ s ≡ number_text z
    by (yes e) = rw e (negative_text s z (plain s) (value_from 0 s) refl refl (sym (after_sign b s e) ∙ h))
    by (no n) = natural_text (b ∷ s) z (plain (b ∷ s)) refl (sym (no_sign (b ∷ s) (λ e. omega arith) n) ∙ h)
