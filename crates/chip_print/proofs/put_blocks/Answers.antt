use Rattle.chip_print.proofs.Parts.{blocks_written}
use borrow.Author.Rules.{rules}
use Rattle.chip_print.proofs.put_blocks.Goals as goal

pub returns : goal.returns
returns c = search (rules, blocks_written)
