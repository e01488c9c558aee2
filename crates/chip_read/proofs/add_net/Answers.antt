use Rattle.chip_read.proofs.MadeOf.{net_never}
use Rattle.chip_read.proofs.Added.{net_added}
use Rattle.chip_read.proofs.Entry.{net_fits}
use borrow.Author.Rules.{rules}
use Rattle.chip_read.proofs.add_net.Goals as goal

pub returns-in_default : goal.returns-in_default
returns-in_default c = search (rules, net_never)

pub bounds-chip-t : goal.bounds-chip-t
bounds-chip-t c = search net_fits

pub returns : goal.returns
returns c = search (rules, net_added)
