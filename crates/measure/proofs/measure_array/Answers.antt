use Rattle.std.proofs.Common.{rules}
use Rattle.std.proofs.lemmas.Result.{err_from_is_err_and}
use Rattle.chip_text.proofs.Passing.{whole}
use Rattle.measure.proofs.Answers.{is_refused, is_measured}
use Rattle.measure.proofs.measure_array.Goals as goal

pub returns-in_err-test_positions : goal.returns-in_err-test_positions
returns-in_err-test_positions c =
    let q = c.in_err-test_positions.was in
    let p = err_from_is_err_and c.from_residual.result c.from_residual.ensures.1 in
    rw (p.1, p.2) (search is_refused)

pub returns : goal.returns
returns c = let q = c.in_ok-test_positions.was in search (rules, is_measured, whole)
