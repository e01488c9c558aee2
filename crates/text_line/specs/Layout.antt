-- The fields of a line as the program holds them: the rules of a form in its order, each way ended by a rule without mark; past the last rule are only
-- such. A rule says by `other` where the line goes on if its mark does not stand here (text_grammar/specs/Choice.antt), and by `letters` whether its field
-- is a number or a string. A value is held as a number: that of a string is the place where it begins in the bytes after the line's word.
use Rattle.std.specs.Prelude.{ℕ, zero, suc, ◌+◌, ◌≤◌, ◌<◌, List, [], ◌∷◌, ◌++◌, ◌≡◌, Bool, true, false, ◌&&◌, leb, ltb, eqb, length, get_or, take, drop, replicate, pos, nat_abs, Result, Ok, Err}
use Rattle.model.specs.declared.Refusal.{Refusal}
use Rattle.std.specs.Int.Signed.{le_z}
use Rattle.std.specs.List.{list_all}
use Rattle.model.specs.Limits.{Range}
use Rattle.model.specs.Meaning.{pin_up}
use Rattle.model.specs.Held.{filled, raised}
use Rattle.num_text.specs.Held.{cap}
use Rattle.model.specs.Step.{Step, next, fault}
use Rattle.text_grammar.specs.Line.{comma, up_to, Sort, numbers, strings, Value, number, string, absent, Rule, Form, over, one, either, fields, if_absent}
use Rattle.text_grammar.specs.Reading.{Reading, accepted, refused}
use Rattle.text_grammar.specs.Choice.{rule_room, absent_held, is_absent, next_place}
use Rattle.text_line.specs.declared.Rule.{Rule as HeldRule}
use Rattle.text_line.specs.declared.Layout.{Layout}
use Rattle.text_line.specs.Held.{lowered}

-- ---- what a layout means

-- the bytes of a field's mark
abbrev pub mark_of : HeldRule → List ℕ
mark_of r = take r.size r.mark

-- the range of a field
abbrev pub range_of : HeldRule → Range
range_of r = record { least = lowered r.up r.least; most = lowered r.up r.most }

-- a or b by a test
abbrev pub pick : {A : Type 0} → Bool → A → A → A
pick true a b = a
pick false a b = b

-- a field holds a number, not a string
abbrev pub is_number : HeldRule → Bool
is_number r = eqb r.letters 0

-- the field that a value means
abbrev pub rule_of : HeldRule → Rule
rule_of r = record { mark = mark_of r; sort = pick (is_number r) (numbers (range_of r)) (strings (take r.letters r.set) r.least r.most) }

-- the rule that ends a way
abbrev pub no_rule : HeldRule
no_rule = record { mark = replicate 4 0; size = 0; other = 0; up = 0; least = 0; most = 0; set = replicate 4 0; letters = 0 }

-- the rule at place j
abbrev pub rule_at : List HeldRule → ℕ → HeldRule
rule_at rs j = get_or rs j no_rule

-- a rule ends its way, and a rule has no other way
abbrev pub is_end : HeldRule → Bool
is_end r = eqb r.size 0

abbrev pub must_stand : HeldRule → Bool
must_stand r = eqb r.other 0

-- the field r and the form f after it; where it may be absent, g is the other way
abbrev pub way_of : HeldRule → Form → Form → Form
way_of r f g = pick (must_stand r) (one (rule_of r) f) (either (rule_of r) f g)

-- the form of at most k fields from the rule at place j on
unfoldable pub form_at : ℕ → List HeldRule → ℕ → Form
form_at zero rs j = over
form_at (suc k) rs j =
    pick (is_end (rule_at rs j)) over
    (way_of (rule_at rs j) (form_at k rs (next_place j (rule_at rs j).other false)) (form_at k rs (next_place j (rule_at rs j).other true)))

-- the value that the number v means in the field r, read from the bytes s: a string goes from the place v up to the next comma
abbrev pub held_in : List ℕ → HeldRule → ℕ → Value
held_in s r v = pick (is_number r) (number (lowered r.up v)) (string (up_to comma (drop v s)))

-- the same, or absent
abbrev pub value_in : List ℕ → HeldRule → ℕ → Value
value_in s r v = pick (is_absent r.other v) absent (held_in s r v)

-- the place of the rule after the field at place j with the number v
abbrev pub place_after : List HeldRule → ℕ → ℕ → ℕ
place_after rs j v = next_place j (rule_at rs j).other (is_absent (rule_at rs j).other v)

-- the values that the numbers vs from number i on mean in at most k fields from the rule at place j on, read from the bytes s
unfoldable pub values_at : ℕ → List HeldRule → List ℕ → List ℕ → ℕ → ℕ → List Value
values_at zero rs s vs j i = []
values_at (suc k) rs s vs j i =
    pick (is_end (rule_at rs j)) [] (value_in s (rule_at rs j) (get_or vs i 0) ∷ values_at k rs s vs (place_after rs j (get_or vs i 0)) (suc i))

-- the number that a value of the field r is held as; p is the place after its mark
abbrev pub number_for : HeldRule → ℕ → Value → ℕ
number_for r p (number z) = raised r.up z
number_for r p (string s) = p
number_for r p absent = absent_held

-- the place of the next comma in the bytes s from p on, or their end
abbrev pub end_from : List ℕ → ℕ → ℕ
end_from s p = p + length (up_to comma (drop p s))

-- the place after the field r with the value v that stands in the bytes s at a
abbrev pub end_of : List ℕ → HeldRule → ℕ → Value → ℕ
end_of s r a v = if_absent v a (end_from s (a + r.size))

-- the numbers that the values of fields in the bytes s are held as, from the rule at place j on; the next field stands at a
unfoldable pub numbers_at : List HeldRule → List ℕ → ℕ → ℕ → List Value → List ℕ
numbers_at rs s j a [] = []
numbers_at rs s j a (v ∷ vs) =
    number_for (rule_at rs j) (a + (rule_at rs j).size) v ∷
    numbers_at rs s (next_place j (rule_at rs j).other (if_absent v true false)) (end_of s (rule_at rs j) a v) vs

-- the form that rules are, of at most four fields, and the values of their numbers vs, read from the bytes s
abbrev pub form_of : List HeldRule → Form
form_of rs = form_at 4 rs 0

abbrev pub values_of : List HeldRule → List ℕ → List ℕ → List Value
values_of rs s vs = values_at 4 rs s vs 0 0

-- ---- how fields are held

-- a field whose name is one byte; its values go from lo to hi and are held u higher
abbrev pub short_rule : ℕ → ℕ → ℕ → ℕ → HeldRule
short_rule name u lo hi = record { mark = 44 ∷ name ∷ 44 ∷ 0 ∷ []; size = 3; other = 0; up = u; least = lo; most = hi; set = replicate 4 0; letters = 0 }

-- the same field, where the line may go on `other` places further on
abbrev pub with_other : ℕ → HeldRule → HeldRule
with_other other r =
    record { mark = r.mark; size = r.size; other = other; up = r.up; least = r.least; most = r.most; set = r.set; letters = r.letters }

-- the same field with a string of the first n bytes of a set
abbrev pub with_letters : List ℕ → ℕ → HeldRule → HeldRule
with_letters set n r = record { mark = r.mark; size = r.size; other = r.other; up = r.up; least = r.least; most = r.most; set = set; letters = n }

-- the rules rs as far as there is room, then such as end a way
abbrev pub laid_out : List HeldRule → Layout
laid_out rs = record { rules = take rule_room (filled rule_room no_rule rs) }

-- how much higher the numbers of a range are held, so that none is below 0
abbrev pub up_of : Range → ℕ
up_of r = elim (le_z (pos 0) r.least) [ true ↦ 0 | false ↦ nat_abs r.least ]

-- a field with that mark and a number, held u higher
abbrev pub number_rule : List ℕ → ℕ → ℕ → ℕ → HeldRule
number_rule m u lo hi = record { mark = filled 4 0 m; size = length m; other = 0; up = u; least = lo; most = hi; set = replicate 4 0; letters = 0 }

-- a field with that mark; the set of a string has one to four bytes
abbrev pub held_rule : List ℕ → Sort → HeldRule
held_rule m (numbers r) = number_rule m (up_of r) (raised (up_of r) r.least) (raised (up_of r) r.most)
held_rule m (strings set lo hi) = with_letters (filled 4 0 set) (length set) (number_rule m 0 lo hi)

-- the rules of a form, in its order
abbrev pub held_rules : Form → List HeldRule
held_rules over = no_rule ∷ []
held_rules (one r f) = held_rule r.mark r.sort ∷ held_rules f
held_rules (either r f g) = with_other (suc (length (held_rules f))) (held_rule r.mark r.sort) ∷ (held_rules f ++ held_rules g)

abbrev pub layout_for : Form → Layout
layout_for f = laid_out (held_rules f)

-- the values that the numbers vs, as held, are in a line of the form, read from the bytes s
abbrev pub values_in : Form → List ℕ → List ℕ → List Value
values_in f s vs = values_of (layout_for f).rules s vs

-- ---- which layouts can be read and written

-- a mark is within its four bytes, a value is held at most as much higher as a pin's, and a range ends below the cap of the number reader
pub record Sane (r : HeldRule) : Type 0 where
  pub name : r.size ≤ 4
  pub shift : r.up ≤ pin_up
  pub top : r.most < cap

-- the same, as a test that computes
abbrev pub is_sane : HeldRule → Bool
is_sane r = leb r.size 4 && (leb r.up pin_up && ltb r.most cap)

-- of a layout: each of its rules is so
unfoldable pub is_layout : List HeldRule → Bool
is_layout rs = list_all is_sane rs

-- a layout that passes the test
pub record Laid (rs : List HeldRule) : Type 0 where
  pub fine : is_layout rs ≡ true

-- ---- reading

-- the fields of a line, with the line's number in a refusal
abbrev pub located : ℕ → Step (List Value) → Reading (List Value)
located l (next vs) = accepted vs
located l (fault n) = refused n l

-- what the bytes s after the word mean, in line l; a layout beyond the limits is refused by 2
unfoldable pub read_fields : List HeldRule → ℕ → List ℕ → Reading (List Value)
read_fields rs l s = elim (is_layout rs) [ true ↦ located l (fields (form_of rs) s) | false ↦ refused 2 l ]

-- document 01's number and values for each case of the field reader's answer
abbrev pub meant_fields : List HeldRule → List ℕ → Result (List ℕ) Refusal → Reading (List Value)
meant_fields rs s (Ok vs) = accepted (values_of rs s vs)
meant_fields rs s (Err f) = refused f.no f.line

-- the whole answer for fields that are read so from the bytes s: the values as held, then 0
abbrev pub fields_answer : List HeldRule → List ℕ → Reading (List Value) → Result (List ℕ) Refusal
fields_answer rs s (accepted vs) = Ok (filled 4 0 (numbers_at rs s 0 0 vs))
fields_answer rs s (refused n l) = Err (record { no = n; line = l })

-- r is the answer for the bytes s after the word in line l: what it means, and the whole of it
pub record FieldsOk (rs : List HeldRule) (l : ℕ) (s : List ℕ) (r : Result (List ℕ) Refusal) : Type 0 where
  pub meant : meant_fields rs s r ≡ read_fields rs l s
  pub whole : r ≡ fields_answer rs s (read_fields rs l s)
