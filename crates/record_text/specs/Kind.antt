-- The rules of the record (document 01, "The search and its record" and "Refusal table"), as a kind of text.
use Rattle.std.specs.Prelude.{ℕ, suc, List, [], ◌∷◌, ◌++◌, Bool, true, ltb, eqb, length}
use Rattle.model.specs.declared.Spot.{Spot}
use Rattle.record_text.specs.declared.RecordWord.{RecordWord}
use Rattle.record_text.specs.declared.RecordWord.TheVariants as word
use Rattle.model.specs.Meaning.{Record, none, least}
use Rattle.model.specs.Limits.{most_macs, most_bytes}
use Rattle.model.specs.Step.{Step, next, check}
use Rattle.text_grammar.specs.Line.{Value}
use Rattle.text_grammar.specs.Words.{size}
use Rattle.text_grammar.specs.Reading.{Kind, Last, before, after, is_last}
use Rattle.record_text.specs.Words.{record_words}

-- what has been read: the word of the last line, and the record so far
pub record Part : Type 0 where
  pub last : Last RecordWord
  pub result : Record

-- before the first line: the record `none`
abbrev pub start : Part
start = record { last = before; result = none }

-- the words that may stand after a word: `none`, or `least` and the macros; then `done`
abbrev pub followers : Last RecordWord → List RecordWord
followers before = word.Least ∷ word.None ∷ []
followers (after word.Least) = word.At ∷ word.Done ∷ []
followers (after word.None) = word.Done ∷ []
followers (after word.At) = word.At ∷ word.Done ∷ []
followers (after word.Done) = []

-- the macros' corners of a record
abbrev pub spots_of : Record → List Spot
spots_of none = []
spots_of (least wl ps) = ps

-- there is room for one more of the word's kind, beside n macros
abbrev pub room : ℕ → RecordWord → Bool
room n word.Least = true
room n word.None = true
room n word.At = ltb n most_macs
room n word.Done = true

-- the corner with the values vs of an `at` line
abbrev pub spot_of : List Value → Spot
spot_of vs = record { x = size vs 1; y = size vs 2 }

-- the record with one more corner
abbrev pub with_spot : Record → Spot → Record
with_spot none p = none
with_spot (least wl ps) p = least wl (ps ++ (p ∷ []))

-- the record r has been read, and w is the word of the last line
abbrev pub read_to : RecordWord → Record → Step Part
read_to w r = next (record { last = after w; result = r })

-- what a line with that word and the values vs adds, and its last test: m out of turn 8
abbrev pub add : Part → RecordWord → List Value → Step Part
add s word.Least vs = read_to word.Least (least (size vs 0) [])
add s word.None vs = read_to word.None none
add s word.At vs =
    check (eqb (size vs 0) (suc (length (spots_of s.result)))) 8
    (read_to word.At (with_spot s.result (spot_of vs)))
add s word.Done vs = read_to word.Done s.result

-- records as a kind of text; `done` is the last line
abbrev pub record_kind : Kind RecordWord Part
record_kind = record {
  words = record_words;
  most_bytes = most_bytes;
  followers = λ s. followers s.last;
  has_room = λ s w. room (length (spots_of s.result)) w;
  has_pin = λ s w. true;
  add = add;
  complete = λ s. is_last record_words s.last word.Done;
}
