-- What the functions of the field reader and of a reader of lines promise.
use Rattle.std.specs.Prelude.{ℕ, zero, suc, ◌+◌, ◌≤◌, List, ◌≡◌, Bool, true, false, ◌&&◌, leb, length, take, drop, Result, Ok, Err}
use Rattle.model.specs.declared.Refusal.{Refusal}
use Rattle.model.specs.Step.{Step, next, fault as fault_by, check}
use Rattle.text_grammar.specs.Line.{Form, strip, and_then, fields}
use Rattle.text_grammar.specs.Choice.{is_absent}
use Rattle.text_line.specs.declared.Rule.{Rule as HeldRule}
use Rattle.text_line.specs.Layout.{pick, way_of, value_in, number_for, end_of}

-- ---- a mark

-- r says whether the first n bytes of the mark stand at the front of s
pub record Starts (mark : List ℕ) (n : ℕ) (s : List ℕ) (r : Bool) : Type 0 where
  pub left : strip (take n mark) s ≡ check r 2 (next (drop n s))
  pub fits : r ≡ true → n ≤ length s

-- ---- one field

-- refusal 4 at line l
abbrev pub out_of_range : ℕ → Result (ℕ × ℕ) Refusal
out_of_range l = Err (record { no = 4; line = l })

-- the value v of a field that ends at b, where its test passes
abbrev pub if_in_range : Bool → ℕ → ℕ → ℕ → Result (ℕ × ℕ) Refusal
if_in_range true v b l = Ok (v, b)
if_in_range false v b l = out_of_range l

-- v, as held, is in the range of the field
abbrev pub within : HeldRule → ℕ → Bool
within r v = leb r.least v && leb v r.most

-- the field with the rule r at a has the value v, or is absent, and b is the place after it; v is how that value is held
pub record Got (text : List ℕ) (a : ℕ) (r : HeldRule) (v b : ℕ) : Type 0 where
  pub place : b ≤ length text
  pub read : (f g : Form) → fields (way_of r f g) (drop a text) ≡ and_then (value_in text r v) (fields (pick (is_absent r.other v) g f) (drop b text))
  pub held : number_for r (a + r.size) (value_in text r v) ≡ v
  pub ends : end_of text r a (value_in text r v) ≡ b

-- the field with the rule r at a is refused by f
pub record Faulty (text : List ℕ) (a : ℕ) (r : HeldRule) (l : ℕ) (f : Refusal) : Type 0 where
  pub at : f.line ≡ l
  pub read : (p q : Form) → fields (way_of r p q) (drop a text) ≡ fault_by f.no

-- the answer of the reader of one field, by its case
abbrev pub FieldOk : List ℕ → ℕ → HeldRule → ℕ → Result (ℕ × ℕ) Refusal → Type 0
FieldOk text a r l (Ok p) = Got text a r p.0 p.1
FieldOk text a r l (Err f) = Faulty text a r l f

-- ---- all fields

-- the answer once no field is left, by the fault of leftover bytes: the values vs, or the refusal at line l
abbrev pub end_answer : ℕ → ℕ → List ℕ → Result (List ℕ) Refusal
end_answer zero l vs = Ok vs
end_answer (suc n) l vs = Err (record { no = suc n; line = l })

-- ---- one line

-- what a line leads to, by its answer: what has been read with it, or its fault
abbrev pub step_of : {S : Type 0} → Result S Refusal → Step S
step_of (Ok s) = next s
step_of (Err f) = fault_by f.no

-- the line of a refusal; where there is none, the line l
abbrev pub line_of : {S : Type 0} → Result S Refusal → ℕ → ℕ
line_of (Ok s) l = l
line_of (Err f) l = f.line

-- an answer is that of line l, which leads to that step
pub record LineOk {S : Type 0} (r : Result S Refusal) (l : ℕ) (step : Step S) : Type 0 where
  pub meant : step_of r ≡ step
  pub at : line_of r l ≡ l

-- what an answer means, by what is held, and that what is held is sound
abbrev pub meant_by : {H S : Type 0} → (H → S) → Result H Refusal → Result S Refusal
meant_by part (Ok s) = Ok (part s)
meant_by part (Err f) = Err f

abbrev pub SoundBy : {H : Type 0} → (H → Type 0) → Result H Refusal → Type 0
SoundBy sound (Ok s) = sound s
SoundBy sound (Err f) = Unit {0}
