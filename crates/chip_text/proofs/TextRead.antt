-- Reading the text of a chip gives the chip, where the text is accepted.
use mathlib.Core.Path.{◌≡◌}
use Rattle.model.specs.Meaning.{Chip}
use Rattle.text_grammar.specs.Reading.{accepted}
use Rattle.text_grammar.proofs.Meaning as meaning
use Rattle.chip_text.specs.Text.{read_chip, chip_text}
use Rattle.chip_text.proofs.ItemsChip.{same_items}
use Rattle.chip_text.proofs.ItemsRun.{items_formed}
use Rattle.chip_text.proofs.ReadText.{chip_means}

pub text_read : (c d : Chip) → read_chip (chip_text c) ≡ accepted d → d ≡ c
unfolding read_chip chip_text
text_read c d e = meaning.text_read chip_means same_items c d (items_formed c) e
