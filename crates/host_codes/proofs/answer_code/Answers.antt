use Rattle.host_codes.proofs.Coding.{answer_text, answer_refused}
use borrow.Author.Rules.{rules}
use Rattle.host_codes.proofs.answer_code.Goals as goal

pub returns-in-Ok : goal.returns-in-Ok
returns-in-Ok c = search (rules, answer_text)

pub returns-in-Err : goal.returns-in-Err
returns-in-Err c = search (rules, answer_refused)
