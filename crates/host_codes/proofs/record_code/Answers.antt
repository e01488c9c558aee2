use Rattle.host_codes.proofs.Coding.{record_yes, record_refused}
use borrow.Author.Rules.{rules}
use Rattle.host_codes.proofs.record_code.Goals as goal

pub returns-in-Ok : goal.returns-in-Ok
returns-in-Ok c = search (rules, record_yes)

pub returns-in-Err : goal.returns-in-Err
returns-in-Err c = search (rules, record_refused)
