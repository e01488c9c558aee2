use Rattle.chip_read.proofs.Added.{fix_faulty, fix_added}
use Rattle.chip_read.proofs.Entry.{fix_fits}
use borrow.Author.Rules.{rules}
use Rattle.chip_read.proofs.put_fix.Goals as goal

pub returns-then-no-ne0 : goal.returns-then-no-ne0
returns-then-no-ne0 c = search (rules, fix_faulty)

pub bounds-chip-k : goal.bounds-chip-k
bounds-chip-k c = search fix_fits

pub returns : goal.returns
returns c = search (rules, fix_added)
