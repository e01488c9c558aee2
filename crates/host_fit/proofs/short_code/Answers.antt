use Rattle.host_fit.proofs.FitDone.{short_done}
use borrow.Author.Rules.{rules}
use Rattle.host_fit.proofs.short_code.Goals as goal

pub returns : goal.returns
returns c = search (rules, short_done)
