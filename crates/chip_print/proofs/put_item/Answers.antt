use Rattle.text_put.proofs.Items.{item_written}
use Rattle.chip_text.specs.Words.{chip_words}
use Rattle.chip_words.proofs.Words.{laying}
use Rattle.chip_print.proofs.put_item.Goals as goal

pub returns : goal.returns
returns c = search (item_written chip_words laying)
