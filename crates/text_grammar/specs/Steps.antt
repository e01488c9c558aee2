-- The steps of a reader: the tests of a line before its fields, and where a line stands in the text.
use Rattle.std.specs.Prelude.{ℕ, ◌+◌, ◌-◌, min, ◌≡◌, List, Bool, true, false, ltb, length, take, drop}
use Rattle.model.specs.Step.{Step, next, check}
use Rattle.text_grammar.specs.Line.{Line, Value, fields, line_feed, up_to}
use Rattle.text_grammar.specs.Words.{Words, is_in}
use Rattle.text_grammar.specs.Reading.{Reading, accepted, onward, Kind}

-- a test, the number where it fails, and what follows where it passes
abbrev pub need : Bool → ℕ → ℕ → ℕ
need true n more = more
need false n more = n

-- the first fault before the fields of a line, by its tests, or 0: place 5, count 6, a net without a pin 7
unfoldable pub entry_by : Bool → Bool → Bool → ℕ
entry_by placed room pinned =
    need placed 5
    (need room 6
    (need pinned 7 0))

module _ {W S : Type 0} (k : Kind W S) (s : S) (w : W) where
  -- the word w may stand here: place
  abbrev pub in_place : Bool
  in_place = is_in k.words w (k.followers s)

  -- the tests before the fields, and what follows where they pass
  abbrev pub on_entry : Step S → Step S
  on_entry more =
      check in_place 5
      (check (k.has_room s w) 6
      (check (k.has_pin s w) 7 more))

  -- the first fault before the fields of a line with a known word, or 0
  unfoldable pub entry_fault : ℕ
  entry_fault = entry_by in_place (k.has_room s w) (k.has_pin s w)

  -- w passes the tests before the fields
  pub record Entered : Type 0 where
    pub clear : entry_fault ≡ 0

-- the end of a text, where line n would begin: s, if the last line has been read
abbrev pub ending : {W S : Type 0} → Kind W S → S → ℕ → Reading S
ending k s n = onward (check (k.complete s) 5 (next s)) n accepted

-- vs are the values that the fields of some line with the word w are read as
pub record ReadAs {W : Type 0} (d : Words W) (w : W) (vs : List Value) : Type 0 where
  pub bytes : List ℕ
  pub read : fields (d.form w) bytes ≡ next vs

-- the place of the first LF from a on, or the end of the text
abbrev pub line_end : List ℕ → ℕ → ℕ
line_end text a = min (a + length (up_to line_feed (drop a text))) (length text)

-- the line that begins at a and ends at e; the LF at e is missing where e is the end of the text
abbrev pub line_at : List ℕ → ℕ → ℕ → Line
line_at text a e = record { bytes = take (e - a) (drop a text); ended = ltb e (length text) }
