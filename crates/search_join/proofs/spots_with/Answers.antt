use borrow.Author.Rules.{rules}
use Rattle.search_join.proofs.Cornering.{with_all}
use Rattle.search_join.proofs.spots_with.Goals as goal

pub returns : goal.returns
returns c = search (rules, with_all)
