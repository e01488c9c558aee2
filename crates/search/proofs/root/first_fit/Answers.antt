use Rattle.search.proofs.Firsts.{first_again, first_said, first_held}
use borrow.Author.Rules.{rules}
use Rattle.search.proofs.root.first_fit.Goals as goal

pub returns-in_default : goal.returns-in_default
returns-in_default c = search first_again

pub from_halves-r-requires : goal.from_halves-r-requires
from_halves-r-requires c = (search rules, search rules, search rules, search (rules, first_said))

pub returns-in-Least : goal.returns-in-Least
returns-in-Least c = search (rules, first_held)

pub returns-in-None : goal.returns-in-None
returns-in-None c = search first_again
