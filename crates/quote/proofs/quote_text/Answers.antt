use Rattle.std.proofs.Common.{rules}
use Rattle.std.proofs.lemmas.Result.{err_from_is_err_and}
use Rattle.quote.proofs.Quoting.{quote_refused, quote_placed}
use Rattle.quote.proofs.quote_text.Goals as goal

pub returns-in_err-page_answer : goal.returns-in_err-page_answer
returns-in_err-page_answer c =
    let q = c.in_err-page_answer.was in
    let r = c.read_chip.ensures.result_value in
    let p = err_from_is_err_and c.from_residual.result c.from_residual.ensures.1 in
    rw (p.1, p.2) (search quote_refused)

pub returns : goal.returns
returns c =
    let q = c.in_ok-page_answer.was in
    let r = c.read_chip.ensures.result_value in
    search quote_placed
