use Rattle.fit_axes.proofs.Directions.{solves}
use borrow.Author.Rules.{rules}
use Rattle.fit_axes.proofs.solve_on.Goals as goal

pub returns : goal.returns
returns c = search (rules, solves)
