use Rattle.chip_text.proofs.Passing.{whole}
use Rattle.chip_print.proofs.Parts.{chip_written}
use borrow.Author.Rules.{rules}
use Rattle.chip_print.proofs.put_chip.Goals as goal

pub put_blocks-a-requires : goal.put_blocks-a-requires
put_blocks-a-requires c = search whole

pub put_nets-b-requires : goal.put_nets-b-requires
put_nets-b-requires c = search whole

pub returns : goal.returns
returns c = search (rules, chip_written)
