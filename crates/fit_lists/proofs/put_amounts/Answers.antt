use borrow.Author.Rules.{rules}
use Rattle.fit_lists.proofs.Puts.{puts_more}
use Rattle.fit_lists.proofs.put_amounts.Goals as goal

pub loop-i-preserved : goal.loop-i-preserved
loop-i-preserved c = search (rules, puts_more)
