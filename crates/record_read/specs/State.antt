-- What the reader holds while it reads, and what that means.
use Rattle.std.specs.Prelude.{ℕ, ◌≡◌, List, [], true, ◌||◌, Option, Some, None, Result, Ok, Err}
use Rattle.model.specs.declared.Refusal.{Refusal}
use Rattle.model.specs.declared.Spot.{Spot}
use Rattle.model.specs.declared.Record.{Record as HeldRecord}
use Rattle.model.specs.Meaning.{Record, none, least, first_of, blank_spot, record_of}
use Rattle.model.specs.Limits.{most_macs}
use Rattle.model.specs.Counted.{Holds}
use Rattle.model.specs.Held.{held_record}
use Rattle.model.specs.Step.{Step}
use Rattle.text_grammar.specs.Line.{Value}
use Rattle.text_grammar.specs.Reading.{is_last, Reading}
use Rattle.text_line.specs.Layout.{values_in}
use Rattle.text_line.specs.Steps.{LineOk, meant_by, SoundBy}
use Rattle.record_text.specs.declared.RecordWord.{RecordWord}
use Rattle.record_text.specs.declared.RecordWord.TheVariants as word
use Rattle.record_text.specs.Words.{form, record_words}
use Rattle.record_text.specs.Kind.{Part}
use Rattle.record_text.specs.Tests.{last_of}
use Rattle.record_read.specs.Answer.{meant_record, record_answer}
use Rattle.record_read.specs.declared.State.{State}

-- the record so far, by whether there is a `least` line
abbrev pub result_of : Option ℕ → ℕ → List Spot → Record
result_of None n ps = none
result_of (Some wl) n ps = least wl (first_of blank_spot n ps)

-- what has been read, as the rules of the record say it
abbrev pub part_of : State → Part
part_of s = record { last = last_of s.last; result = result_of s.wl s.count s.spots }

-- the values of a line with the word w, as the program holds them
abbrev pub record_values : RecordWord → List ℕ → List Value
record_values w v = values_in (form w) [] v

-- the count stays within the array, whose entries past it are blank, and is 0 before a `least` line, which stands before an `at` line
pub record Sound (s : State) : Type 0 where
  pub spots : Holds blank_spot most_macs s.count s.spots
  pub blank : s.wl ≡ None → s.count ≡ 0
  pub opened : (is_last record_words (last_of s.last) word.Least || is_last record_words (last_of s.last) word.At) ≡ true → (wl : ℕ) × (s.wl ≡ Some wl)

-- t is what line l leads to by that step, and what has been read is sound
pub record TakenOk (t : Result State Refusal) (l : ℕ) (step : Step Part) : Type 0 where
  pub ok : LineOk (meant_by part_of t) l step
  pub sound : SoundBy Sound t

-- r is the record d as it is held
pub record RecordIs (r : HeldRecord) (d : Record) : Type 0 where
  pub meant : record_of r ≡ d
  pub whole : r ≡ held_record d

-- r is the answer for a text that is read so
pub record ReadOk (read : Reading Record) (r : Result HeldRecord Refusal) : Type 0 where
  pub meant : meant_record r ≡ read
  pub whole : r ≡ record_answer read
