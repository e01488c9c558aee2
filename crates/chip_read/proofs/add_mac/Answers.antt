use Rattle.chip_read.proofs.MadeOf.{mac_never}
use Rattle.chip_read.proofs.Added.{mac_added}
use Rattle.chip_read.proofs.Entry.{mac_fits}
use borrow.Author.Rules.{rules}
use Rattle.chip_read.proofs.add_mac.Goals as goal

pub returns-in_default : goal.returns-in_default
returns-in_default c = search (rules, mac_never)

pub bounds-chip-n : goal.bounds-chip-n
bounds-chip-n c = search mac_fits

pub returns : goal.returns
returns c = search (rules, mac_added)
