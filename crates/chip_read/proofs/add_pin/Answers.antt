use Rattle.chip_read.proofs.MadeOf.{pin_never}
use Rattle.chip_read.proofs.PinAdded.{net_fits_one, no_macro, pin_added}
use Rattle.chip_read.proofs.Entry.{pin_fits, net_open}
use borrow.Author.Rules.{rules}
use Rattle.chip_read.proofs.add_pin.Goals as goal

pub returns-in_default : goal.returns-in_default
returns-in_default c = search (rules, pin_never)

pub returns-then-no-ne0 : goal.returns-then-no-ne0
returns-then-no-ne0 c = search (rules, no_macro)

pub overflow_sub-last : goal.overflow_sub-last
overflow_sub-last c = search net_open

pub overflow_add-chip : goal.overflow_add-chip
overflow_add-chip c = search net_fits_one

pub bounds-chip-q : goal.bounds-chip-q
bounds-chip-q c = search pin_fits

pub returns : goal.returns
returns c = search (rules, pin_added)
