use Rattle.host_fit.proofs.Coding.{fit_placed, fit_none, fit_refused}
use borrow.Author.Rules.{rules}
use Rattle.host_fit.proofs.fit_code.Goals as goal

pub returns-in-Ok-Some : goal.returns-in-Ok-Some
returns-in-Ok-Some c = search (rules, fit_placed)

pub returns-in-Ok-None : goal.returns-in-Ok-None
returns-in-Ok-None c = search (rules, fit_none)

pub returns-in-Err : goal.returns-in-Err
returns-in-Err c = search (rules, fit_refused)
