use Rattle.std.proofs.Common.{rules}
use Rattle.std.proofs.lemmas.Result.{err_from_is_err_and}
use Rattle.text_grammar.proofs.Fit.{test_refused, no_space, all_written}
use Rattle.chip_text.specs.Text.{read_chip}
use Rattle.chip_text.proofs.ReadText.{accepted_short}
use Rattle.chip_write.proofs.write_chip.Goals as goal

pub returns-in_err-test_chip : goal.returns-in_err-test_chip
returns-in_err-test_chip c =
    let q = c.in_err-test_chip.was in
    let p = err_from_is_err_and c.from_residual.result c.from_residual.ensures.1 in
    rw (p.1, p.2) (search (rules, test_refused read_chip 16384 accepted_short))

pub returns-then-out-put_chip : goal.returns-then-out-put_chip
returns-then-out-put_chip c = let q = c.in_ok-test_chip.was in search (rules, no_space read_chip 16384 accepted_short)

pub returns : goal.returns
returns c = let q = c.in_ok-test_chip.was in search (rules, all_written read_chip 16384 accepted_short)
