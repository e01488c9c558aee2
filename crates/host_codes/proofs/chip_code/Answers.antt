use Rattle.host_codes.proofs.Coding.{chip_yes, chip_refused}
use borrow.Author.Rules.{rules}
use Rattle.host_codes.proofs.chip_code.Goals as goal

pub returns-in-Ok : goal.returns-in-Ok
returns-in-Ok c = search (rules, chip_yes)

pub returns-in-Err : goal.returns-in-Err
returns-in-Err c = search (rules, chip_refused)
