-- Numbers as text. Document 01, "The chip file": a number is `0`, or digits not starting with 0, after a minus sign where negative; `-0` is no number.
use Rattle.std.specs.Prelude.{ℕ, zero, suc, ◌+◌, ◌-◌, ◌*◌, ◌/◌, ◌%◌, List, [], ◌∷◌, ◌++◌, Bool, true, false, ◌&&◌, cond, leb, ltb, eqb, ℤ, pos, negsuc}
use Rattle.std.specs.List.{list_all}

-- the byte `-`
abbrev pub minus_sign : ℕ
minus_sign = 45

-- the bytes `0` to `9`
abbrev pub is_digit : ℕ → Bool
is_digit b = leb 48 b && leb b 57

-- everything in the list s passes the test
unfoldable pub all_of : {A : Type 0} → (A → Bool) → List A → Bool
all_of p s = list_all p s

-- the value of digits: of s, after digits with the value a
unfoldable pub value_from : ℕ → List ℕ → ℕ
value_from a [] = a
value_from a (b ∷ s) = value_from (a * 10 + (b - 48)) s

-- `0`, or digits not starting with 0
unfoldable pub plain : List ℕ → Bool
plain [] = false
plain (b ∷ []) = is_digit b
plain (b ∷ (c ∷ s)) = leb 49 b && all_of is_digit (b ∷ (c ∷ s))

-- what a field's bytes are: a number, or none
pub data Numeral : Type 0 where
  number : ℤ → Numeral
  no_number : Numeral

-- the number n, where the test of its bytes passes
abbrev pub natural : Bool → ℕ → Numeral
natural true n = number (pos n)
natural false n = no_number

-- the number -n, where the test of its bytes passes and n is above 0 (`-0` is no number)
abbrev pub negative : Bool → ℕ → Numeral
negative true zero = no_number
negative true (suc n) = number (negsuc n)
negative false n = no_number

-- the number that a field's bytes stand for: by whether the first is the minus sign
unfoldable pub numeral_of : List ℕ → Numeral
numeral_of [] = no_number
numeral_of (b ∷ s) = cond (eqb b minus_sign) (negative (plain s) (value_from 0 s)) (natural (plain (b ∷ s)) (value_from 0 (b ∷ s)))

-- the decimal digits of n, without leading zeros, where it has at most k of them; else the last k
unfoldable pub digits_in : ℕ → ℕ → List ℕ
digits_in zero n = []
digits_in (suc k) n = elim (ltb n 10) [ true ↦ (48 + n) ∷ [] | false ↦ digits_in k (n / 10) ++ ((48 + n % 10) ∷ []) ]

-- the decimal digits of n (n has at most n + 1 of them)
unfoldable pub digits : ℕ → List ℕ
digits n = digits_in (suc n) n

-- the one text of a number
abbrev pub number_text : ℤ → List ℕ
number_text (pos n) = digits n
number_text (negsuc n) = minus_sign ∷ digits (suc n)
