use Rattle.text_put.proofs.Items.{item_written}
use Rattle.record_text.specs.Words.{record_words}
use Rattle.record_words.proofs.Words.{laying}
use Rattle.record_print.proofs.put_item.Goals as goal

pub returns : goal.returns
returns c = search (item_written record_words laying)
