-- The walk through a line as far as its fields, for any kind of text, by a table of words: the spelling of each word and, as things stand, the tests
-- before the fields of a line with the word.
use Rattle.std.specs.Prelude.{ℕ, zero, suc, ◌≤◌, ◌≡◌, Bool, true, false, List, [], ◌∷◌, ltb, length, take, drop, get_or, Result, Ok, Err}
use Rattle.model.specs.declared.Refusal.{Refusal}
use Rattle.text_grammar.specs.Line.{Line, comma, up_to, from}
use Rattle.text_grammar.specs.Words.{same}
use Rattle.text_grammar.specs.Steps.{entry_by}
use Rattle.text_line.specs.declared.Spelling.{Spelling}
use Rattle.text_line.specs.Held.{text_of}
use Rattle.text_line.specs.Steps.{line_of}
use Rattle.text_walk.specs.declared.Tests.{Tests}
use Rattle.text_walk.specs.declared.Walked.{Walked}

-- a line: the number of its word and the bytes after it, or the number of its fault
pub data Walk : Type 0 where
  word : ℕ → List ℕ → Walk
  stop : ℕ → Walk

-- the number of the first spelling that the bytes s are, or how many there are
unfoldable pub find_in : List Spelling → List ℕ → ℕ
find_in [] s = 0
find_in (p ∷ ps) s = elim (same (text_of p) s) [ true ↦ 0 | false ↦ suc (find_in ps s) ]

-- the first of the tests before the fields that a line with word i fails, or 0
abbrev pub fault_at : Tests → ℕ → ℕ
fault_at t i = entry_by (get_or t.placed i false) (get_or t.room i false) (get_or t.pinned i false)

-- what follows, where there is no fault
abbrev pub unless_fault : ℕ → Walk → Walk
unless_fault zero w = w
unless_fault (suc n) w = stop (suc n)

-- a word that is known, or fault 2
abbrev pub if_known : Bool → Walk → Walk
if_known true w = w
if_known false w = stop 2

-- word i of n, with the bytes s after it
abbrev pub walk_word : Tests → ℕ → ℕ → List ℕ → Walk
walk_word t n i s = if_known (ltb i n) (unless_fault (fault_at t i) (word i s))

-- the bytes b of a line, by the first n words of a table
unfoldable pub walk_bytes : List Spelling → ℕ → Tests → List ℕ → Walk
walk_bytes ps n t b = walk_word t (length (take n ps)) (find_in (take n ps) (up_to comma b)) (from comma b)

-- a line; a missing LF is fault 2
abbrev pub walk_line : List Spelling → ℕ → Tests → Line → Walk
walk_line ps n t x = if_known x.ended (walk_bytes ps n t x.bytes)

-- ---- the program's answer

-- what each case of the answer means for a line with the bytes b
abbrev pub walk_of : Result Walked Refusal → List ℕ → Walk
walk_of (Ok r) b = word r.word (drop r.size b)
walk_of (Err f) b = stop f.no

-- how many bytes the word has
abbrev pub size_in : Result Walked Refusal → ℕ
size_in (Ok r) = r.size
size_in (Err f) = 0

-- r is the answer for line l, which is walked so and has the bytes b
pub record WalkOk (l : ℕ) (b : List ℕ) (w : Walk) (r : Result Walked Refusal) : Type 0 where
  pub meant : walk_of r b ≡ w
  pub fits : size_in r ≤ length b
  pub at : line_of r l ≡ l

-- r is the answer for the line x, number l, by the first n words of a table
abbrev pub WalkedOk : List Spelling → ℕ → Tests → ℕ → Line → Result Walked Refusal → Type 0
WalkedOk ps n t l x r = WalkOk l x.bytes (walk_line ps n t x) r
