use Rattle.chip_read.proofs.MadeOf.{fix_never}
use Rattle.chip_read.proofs.Added.{fix_made_law}
use borrow.Author.Rules.{rules}
use Rattle.chip_read.proofs.add_fix.Goals as goal

pub returns-in_default : goal.returns-in_default
returns-in_default c = search (rules, fix_never)

pub returns : goal.returns
returns c = search (rules, fix_made_law)
