-- Lines and their fields. Document 01, "The chip file": lines end with LF; each line is a word, then each value after its field name,
-- in fixed order, parted by commas.
use Rattle.std.specs.Prelude.{ℕ, List, [], ◌∷◌, ◌++◌, Bool, true, false, ◌&&◌, ◌||◌, eqb, leb, length, ℤ}
use Rattle.std.specs.List.{list_any}
use Rattle.num_text.specs.Number.{Numeral, no_number, numeral_of, number_text, all_of}
use Rattle.num_text.specs.Number as decimal
use Rattle.model.specs.Step.{Step, next, fault, check, on_next}
use Rattle.model.specs.Limits.{Range, is_within}

-- the byte `,`
abbrev pub comma : ℕ
comma = 44

-- the byte LF
abbrev pub line_feed : ℕ
line_feed = 10

-- a line: its bytes without the LF, and whether an LF ends it
pub record Line : Type 0 where
  pub bytes : List ℕ
  pub ended : Bool

-- the lines with the byte b in front of the first of them
abbrev pub before : ℕ → List Line → List Line
before b [] = record { bytes = b ∷ []; ended = false } ∷ []
before b (l ∷ ls) = record { bytes = b ∷ l.bytes; ended = l.ended } ∷ ls

-- the lines ls with the byte b in front; LF ends an empty line there
abbrev pub cut : Bool → ℕ → List Line → List Line
cut true b ls = record { bytes = []; ended = true } ∷ ls
cut false b ls = before b ls

-- the lines of a text: each LF ends one, and bytes after the last LF are a line without LF
unfoldable pub lines : List ℕ → List Line
lines [] = []
lines (b ∷ s) = cut (eqb b line_feed) b (lines s)

-- the bytes before the first d, or all
unfoldable pub up_to : ℕ → List ℕ → List ℕ
up_to d [] = []
up_to d (b ∷ s) = elim (eqb b d) [ true ↦ [] | false ↦ b ∷ up_to d s ]

-- the bytes from the first d on, or none
unfoldable pub from : ℕ → List ℕ → List ℕ
from d [] = []
from d (b ∷ s) = elim (eqb b d) [ true ↦ b ∷ s | false ↦ from d s ]

-- ---- what a field holds

-- a number of a range, or a string of bytes from a set, from so many to so many bytes long
pub data Sort : Type 0 where
  numbers : Range → Sort
  strings : List ℕ → ℕ → ℕ → Sort

-- the value of a field; `absent` stands for a field that a line may have and has not
pub data Value : Type 0 where
  number : ℤ → Value
  string : List ℕ → Value
  absent : Value

-- a number of the range: no number is fault 3, and one outside the range fault 4
abbrev pub numbered : Numeral → Range → Step Value
numbered (decimal.number z) r = check (is_within r z) 4 (next (number z))
numbered no_number r = fault 3

-- b is one of the bytes of a set
unfoldable pub is_of : List ℕ → ℕ → Bool
is_of set b = list_any (eqb b) set

-- s has bytes of the set only, and a length from lo to hi
abbrev pub is_string : List ℕ → ℕ → ℕ → List ℕ → Bool
is_string set lo hi s = all_of (is_of set) s && (leb lo (length s) && leb (length s) hi)

-- the value that the bytes s are; a string that is none of its set or of another length is fault 3
abbrev pub value_of : Sort → List ℕ → Step Value
value_of (numbers r) s = numbered (numeral_of s) r
value_of (strings set lo hi) s = check (is_string set lo hi s) 3 (next (string s))

-- the text of a value
abbrev pub value_text : Value → List ℕ
value_text (number z) = number_text z
value_text (string s) = s
value_text absent = []

-- ---- the fields of a line

-- a field: its mark, which is its name between two commas, and what it holds
pub record Rule : Type 0 where
  pub mark : List ℕ
  pub sort : Sort

-- a field with that name
abbrev pub field : List ℕ → Sort → Rule
field name s = record { mark = comma ∷ (name ++ (comma ∷ [])); sort = s }

-- the fields of a line, from the left: no more; a field and those after it; or, where the name of the field stands here, the field and the
-- first of two ways to go on, else the second
pub data Form : Type 0 where
  over : Form
  one : Rule → Form → Form
  either : Rule → Form → Form → Form

-- a field with that name that holds a number of the range, and the fields after it
abbrev pub named : List ℕ → Range → Form → Form
named name r more = one (field name (numbers r)) more

-- what follows the mark m at the front of s; where the mark is not there, fault 2
unfoldable pub strip : List ℕ → List ℕ → Step (List ℕ)
strip [] s = next s
strip (a ∷ m) [] = fault 2
strip (a ∷ m) (b ∷ s) = elim (eqb b a) [ true ↦ strip m s | false ↦ fault 2 ]

-- the value v in front of the values of the further fields
abbrev pub and_then : Value → Step (List Value) → Step (List Value)
and_then v more = on_next more (λ vs. next (v ∷ vs))

-- the field after its mark and the further fields; where the mark is not there, something else
abbrev pub marked : Step (List ℕ) → Rule → (List ℕ → Step (List Value)) → Step (List Value) → Step (List Value)
marked (next s) r more else = on_next (value_of r.sort (up_to comma s)) (λ v. and_then v (more (from comma s)))
marked (fault n) r more else = else

-- the values of a line's fields in the bytes after its word: a missing comma or name is fault 2, and so are leftover bytes
unfoldable pub fields : Form → List ℕ → Step (List Value)
fields over [] = next []
fields over (b ∷ s) = fault 2
fields (one r f) s = marked (strip r.mark s) r (λ t. fields f t) (fault 2)
fields (either r f g) s = marked (strip r.mark s) r (λ t. fields f t) (and_then absent (fields g s))

-- the text of a field, its mark and its value, and of those after it
abbrev pub field_text : Rule → Value → List ℕ → List ℕ
field_text r v more = r.mark ++ (value_text v ++ more)

-- a where the value is absent, else b
abbrev pub if_absent : {A : Type 0} → Value → A → A → A
if_absent absent a b = a
if_absent (number z) a b = b
if_absent (string s) a b = b

-- the text of fields with the values vs
unfoldable pub fields_text : Form → List Value → List ℕ
fields_text over vs = []
fields_text (one r f) [] = []
fields_text (one r f) (v ∷ vs) = field_text r v (fields_text f vs)
fields_text (either r f g) [] = []
fields_text (either r f g) (v ∷ vs) = if_absent v (fields_text g vs) (field_text r v (fields_text f vs))
