use Rattle.fit_axes.proofs.MadeAxes.{axis_made_if}
use borrow.Author.Rules.{rules}
use Rattle.fit_axes.proofs.axis_of.Goals as goal

pub returns : goal.returns
returns c = search (rules, axis_made_if)
