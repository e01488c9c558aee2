use Rattle.std.proofs.Common.{rules}
use Rattle.std.proofs.lemmas.Result.{err_from_is_err_and}
use Rattle.chip_text.proofs.Passing.{Whole, whole, test_passed}
use Rattle.search.proofs.Placing.{search_refused, record_searched}
use Rattle.search.proofs.service.search_chip.Goals as goal

pub chip_record-requires : goal.chip_record-requires
chip_record-requires c =
    let wf = c.well_formed in
    let w : Whole c.args.c = search whole in
    test_passed _ w c.test_chip.result c.test_chip.ensures c.in_ok-test_chip.was

pub returns-in_err-test_chip : goal.returns-in_err-test_chip
returns-in_err-test_chip c =
    let p = err_from_is_err_and c.from_residual.result c.from_residual.ensures.1 in
    rw (p.1, p.2) (search_refused _ _ _ c.test_chip.result c.test_chip.ensures c.in_err-test_chip.was)

pub returns : goal.returns
returns c =
    let wf = c.well_formed in
    let w : Whole c.args.c = search whole in
    record_searched _ (test_passed _ w c.test_chip.result c.test_chip.ensures c.in_ok-test_chip.was) _ c.chip_record.ensures _ _ c.write_record.ensures
