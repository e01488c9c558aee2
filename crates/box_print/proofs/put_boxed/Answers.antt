use Rattle.box_print.proofs.Printed.{none_boxed, least_boxed}
use borrow.Author.Rules.{rules}
use Rattle.box_print.proofs.put_boxed.Goals as goal

pub returns-in-None : goal.returns-in-None
returns-in-None c = search (rules, none_boxed)

pub returns-in-Least : goal.returns-in-Least
returns-in-Least c = search (rules, least_boxed)
