-- A chip held as a value whose test is passed: its text would be accepted. What a service that takes a chip knows once it has tested it.
use Rattle.std.specs.Prelude.{◌≡◌, length}
use Rattle.model.specs.declared.Chip.{Chip as HeldChip}
use Rattle.model.specs.Meaning.{chip_of}
use Rattle.text_grammar.specs.Reading.{accepted}
use Rattle.chip_text.specs.Kind.{pin_count}
use Rattle.chip_text.specs.Text.{read_chip, chip_text}
use Rattle.chip_text.specs.Valid.{pins_before, Valid, HeldValid}

-- the text of the chip is accepted, as the chip that the value means
abbrev pub Accepted : HeldChip → Type 0
Accepted c = accepted (chip_of c) ≡ read_chip (chip_text (chip_of c))

-- the same, with what follows of an accepted chip
pub record Passed (c : HeldChip) : Type 0 where
  pub read : Accepted c
  pub fine : HeldValid c
  pub valid : Valid (chip_of c)
  pub fixes : length (chip_of c).fixes ≡ c.k
  pub macs : length (chip_of c).macs ≡ c.n
  pub pins : pin_count (chip_of c).nets ≡ pins_before c.t c.nets
