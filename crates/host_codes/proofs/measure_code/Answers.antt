use Rattle.host_codes.proofs.Coding.{measure_measured, measure_refused}
use borrow.Author.Rules.{rules}
use Rattle.host_codes.proofs.measure_code.Goals as goal

pub returns-in-Ok : goal.returns-in-Ok
returns-in-Ok c = search (rules, measure_measured)

pub returns-in-Err : goal.returns-in-Err
returns-in-Err c = search (rules, measure_refused)
