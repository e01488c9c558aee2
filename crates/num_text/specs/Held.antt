-- How the program holds a number that it has read, and what writing into a lent buffer leaves there.
use Rattle.std.specs.Prelude.{ℕ, suc, ◌+◌, min, ◌≡◌, List, true, false, length, pos, negsuc, Option, Some, None}
use Rattle.std.proofs.lemmas.List.Edits.{sets}
use Rattle.num_text.specs.declared.Number.{Number}
use Rattle.num_text.specs.Number.{Numeral, number, no_number}

-- a number above every range of document 01: a magnitude above it is held as this one
abbrev pub cap : ℕ
cap = 1000000000

-- the answer of the number reader for each case: sign (true where negative) and magnitude, or none
abbrev pub held_number : Numeral → Option Number
held_number (number (pos n)) = Some (record { negative = false; magnitude = min cap n })
held_number (number (negsuc n)) = Some (record { negative = true; magnitude = min cap (suc n) })
held_number no_number = None

-- the greatest place that the program can count to; every buffer is shorter
abbrev pub last_place : ℕ
last_place = 18446744073709551615

-- writing `text` from place `at` on, as far as the buffer goes, turned the buffer `before` into `after`; `next` is the place after the text, or
-- the greatest place where that is above it
pub record Wrote (before after text : List ℕ) (at next : ℕ) : Type 0 where
  pub place : next ≡ min (at + length text) last_place
  pub bytes : after ≡ sets before at text
