use Rattle.search_join.proofs.Joining.{unshown_joined, beyond_joined, halves_joined}
use borrow.Author.Rules.{rules}
use Rattle.search_join.proofs.joined.Goals as goal

pub returns-in-Fit : goal.returns-in-Fit
returns-in-Fit c = search (rules, halves_joined)

pub returns-in-Beyond : goal.returns-in-Beyond
returns-in-Beyond c = search (rules, beyond_joined)

pub returns-in-Unshown : goal.returns-in-Unshown
returns-in-Unshown c = search unshown_joined
