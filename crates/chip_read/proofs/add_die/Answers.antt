use Rattle.chip_read.proofs.MadeOf.{die_never}
use Rattle.chip_read.proofs.Added.{die_added}
use borrow.Author.Rules.{rules}
use Rattle.chip_read.proofs.add_die.Goals as goal

pub returns-in_default : goal.returns-in_default
returns-in_default c = search (rules, die_never)

pub returns : goal.returns
returns c = search (rules, die_added)
