use Rattle.search_kept.proofs.Adding.{adds_shut, adds_more}
use borrow.Author.Rules.{rules}
use Rattle.search_kept.proofs.add.Goals as goal

pub returns-then-against : goal.returns-then-against
returns-then-against c = search (rules, adds_shut)

pub returns : goal.returns
returns c = search (rules, adds_more)
