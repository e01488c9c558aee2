use Rattle.std.proofs.Common.{rules}
use Rattle.std.proofs.lemmas.Result.{err_from_is_err_and}
use Rattle.quote_page.proofs.Answering.{within_stays, refusal_first, beyond_told}
use Rattle.quote_page.proofs.page_answer.Goals as goal

pub returns-in_err-c : goal.returns-in_err-c
returns-in_err-c c =
    let q = c.in_err-c.was in
    let p = err_from_is_err_and c.from_residual.result c.from_residual.ensures.1 in
    rw (p.1, p.2) (search (rules, refusal_first))

pub returns-then-not-on_page : goal.returns-then-not-on_page
returns-then-not-on_page c = let q = c.in_ok-c.was in search (rules, beyond_told)

pub returns : goal.returns
returns c = let q = c.in_ok-c.was in search (rules, within_stays)
