use Rattle.chip_text.proofs.Passing.{whole}
use Rattle.chip_read.proofs.Passing.{read_passed}
use Rattle.beside_check.proofs.Reading.{chip_refused, record_refused, both_read}
use borrow.Author.Rules.{rules}
use Rattle.beside_check.proofs.check_beside.Goals as goal

pub compared-requires : goal.compared-requires
compared-requires c = search (rules, read_passed, whole)

pub returns-in-Err : goal.returns-in-Err
returns-in-Err c = search chip_refused

pub returns-in-Err-second : goal.returns-in-Err-second
returns-in-Err-second c = search record_refused

pub returns-in-Ok-second : goal.returns-in-Ok-second
returns-in-Ok-second c = search both_read
