-- What the reader holds while it reads, and what that means.
use Rattle.std.specs.Prelude.{ℕ, ◌≤◌, ◌≡◌, List, [], true, ◌||◌, Result, Ok, Err, Some}
use Rattle.model.specs.declared.Refusal.{Refusal}
use Rattle.model.specs.declared.Chip.{Chip as HeldChip}
use Rattle.model.specs.Meaning.{chip_of, first_of, blank_fix, blank_mac, blank_net, blank_pin, Chip}
use Rattle.model.specs.Counted.{taken, Holds}
use Rattle.model.specs.Limits.{most_fixes, most_macs, most_nets, most_pins}
use Rattle.model.specs.Step.{Step}
use Rattle.text_grammar.specs.Line.{Value}
use Rattle.text_grammar.specs.Reading.{is_last, Reading}
use Rattle.text_line.specs.Layout.{values_in}
use Rattle.text_line.specs.Steps.{LineOk, meant_by, SoundBy}
use Rattle.chip_text.specs.declared.ChipWord.{ChipWord}
use Rattle.chip_text.specs.declared.ChipWord.TheVariants as word
use Rattle.chip_text.specs.Words.{form, chip_words}
use Rattle.chip_text.specs.Kind.{Part}
use Rattle.chip_text.specs.Tests.{last_of}
use Rattle.chip_read.specs.Answer.{meant_chip, chip_answer}
use Rattle.chip_read.specs.declared.State.{State}

-- what has been read, as the rules of the chip file say it
abbrev pub part_of : State → Part
part_of s = record { last = last_of s.last; chip = chip_of s.chip }

-- the values of a line with the word w, as the program holds them
abbrev pub chip_values : ChipWord → List ℕ → List Value
chip_values w v = values_in (form w) [] v

-- the counts stay within the arrays, whose entries past them are blank, the pins are those that the nets take, and a net stands before a pin
pub record Sound (s : State) : Type 0 where
  pub fixes : Holds blank_fix most_fixes s.chip.k s.chip.fixes
  pub macs : Holds blank_mac most_macs s.chip.n s.chip.macs
  pub nets : Holds blank_net most_nets s.chip.t s.chip.nets
  pub pins : Holds blank_pin most_pins s.pins s.chip.pins
  pub counted : taken (first_of blank_net s.chip.t s.chip.nets) ≡ s.pins
  pub opened : (is_last chip_words (last_of s.last) word.Net || is_last chip_words (last_of s.last) word.Pin) ≡ true → 1 ≤ s.chip.t

-- what has been read after a line with the word w: c is the chip so far
abbrev pub with_chip : State → ChipWord → HeldChip → State
with_chip s w c = record { last = Some w; pins = s.pins; chip = c }

-- t is what line l leads to by that step, and what has been read is sound
pub record TakenOk (t : Result State Refusal) (l : ℕ) (step : Step Part) : Type 0 where
  pub ok : LineOk (meant_by part_of t) l step
  pub sound : SoundBy Sound t

-- r is the answer for a text that is read so
pub record ReadOk (read : Reading Chip) (r : Result HeldChip Refusal) : Type 0 where
  pub meant : meant_chip r ≡ read
  pub whole : r ≡ chip_answer read
