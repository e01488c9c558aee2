use Rattle.record_print.proofs.Printed.{none_written, least_written}
use borrow.Author.Rules.{rules}
use Rattle.record_print.proofs.put_body.Goals as goal

pub returns-in-None : goal.returns-in-None
returns-in-None c = search (rules, none_written)

pub returns-in-Least : goal.returns-in-Least
returns-in-Least c = search (rules, least_written)
