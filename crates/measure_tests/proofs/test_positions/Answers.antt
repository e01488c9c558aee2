use Rattle.std.proofs.Common.{rules}
use Rattle.std.proofs.lemmas.Result.{err_from_is_err_and}
use Rattle.chip_text.proofs.Passing.{whole, test_passed}
use Rattle.measure_tests.proofs.Testing.{chip_refused, chip_passed}
use Rattle.measure_tests.proofs.test_positions.Goals as goal

pub test_passed-requires : goal.test_passed-requires
test_passed-requires c = let q = c.in_ok-test_chip.was in search (rules, test_passed, whole)

pub returns-in_err-test_chip : goal.returns-in_err-test_chip
returns-in_err-test_chip c =
    let q = c.in_err-test_chip.was in
    let p = err_from_is_err_and c.from_residual.result c.from_residual.ensures.1 in
    rw (p.1, p.2) (search chip_refused)

pub returns : goal.returns
returns c = let q = c.in_ok-test_chip.was in search chip_passed
