-- What the private functions of the number reader promise.
use Rattle.std.specs.Prelude.{ℕ, ◌+◌, ◌-◌, ◌*◌, min, List, Bool, true, false, Option, Some, None}
use Rattle.num_text.specs.Number.{is_digit, all_of, plain, value_from}
use Rattle.num_text.specs.Held.{cap}

-- every byte of s is a digit
abbrev pub all_digits : List ℕ → Bool
all_digits s = all_of is_digit s

-- the value of digits with the value a and the digit b after them, at most the cap
abbrev pub push : ℕ → ℕ → ℕ
push a b = min cap (a * 10 + (b - 48))

-- the number n, at most the cap, where the test of its bytes passes
abbrev pub capped : Bool → ℕ → Option ℕ
capped true n = Some (min cap n)
capped false n = None

-- the magnitude in a text that has no sign, at most the cap, or none
unfoldable pub held_natural : List ℕ → Option ℕ
held_natural s = capped (plain s) (value_from 0 s)
