-- A choice in a line as the program follows it: rules in places, each with the number `other`. Where that is 0 the field must stand here; else, where its
-- name does not stand here, the line goes on with the rule that many places further on.
use Rattle.std.specs.Prelude.{ℕ, ◌+◌, min, Bool, true, false, not, ◌&&◌, eqb}
use Rattle.text_grammar.specs.Steps.{need}

-- how many places there are; past them is no rule
abbrev pub rule_room : ℕ
rule_room = 4

-- how a field that is not there is held: a number above every one that a field can hold
abbrev pub absent_held : ℕ
absent_held = 18446744073709551615

-- the fault where the name of a field does not stand here: 2 where it must, else 0
abbrev pub name_fault : ℕ → ℕ
name_fault other = need (not (eqb other 0)) 2 0

-- the number v stands for a field that is not there
abbrev pub is_absent : ℕ → ℕ → Bool
is_absent other v = not (eqb other 0) && eqb v absent_held

-- how far on the next rule is, by whether the field is absent
abbrev pub rule_step : ℕ → Bool → ℕ
rule_step other true = other
rule_step other false = 1

-- the place of the next rule
abbrev pub next_place : ℕ → ℕ → Bool → ℕ
next_place j other absent = min (j + rule_step other absent) rule_room
