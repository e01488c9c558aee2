use Rattle.search.proofs.Firsts.{first_joined}
use borrow.Author.Rules.{rules}
use Rattle.search.proofs.root.from_halves.Goals as goal

pub returns : goal.returns
returns c = search (rules, first_joined)
