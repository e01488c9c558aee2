use Rattle.record_read.proofs.Added.{out_of_turn, spot_never, at_added}
use Rattle.record_read.proofs.Entry.{at_fits}
use borrow.Author.Rules.{rules}
use Rattle.record_read.proofs.add_at.Goals as goal

pub returns-then-no-ne0 : goal.returns-then-no-ne0
returns-then-no-ne0 c = search (rules, out_of_turn)

pub returns-in_default : goal.returns-in_default
returns-in_default c = search (rules, spot_never)

pub bounds-spots-n : goal.bounds-spots-n
bounds-spots-n c = search at_fits

pub returns : goal.returns
returns c = search (rules, at_added)
