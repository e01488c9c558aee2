use Rattle.chip_array.proofs.Read.{count_read}
use borrow.Author.Rules.{rules}
use Rattle.chip_array.proofs.macro_count.Goals as goal

pub returns : goal.returns
returns c = search (rules, count_read)
