use borrow.Author.Rules.{rules}
use Rattle.host_lists.proofs.Lengths.{short_same}
use Rattle.host_lists.proofs.is_short.Goals as goal

pub returns : goal.returns
returns c = search (rules, short_same)
