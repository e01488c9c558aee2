use Rattle.std.proofs.Common.{rules}
use Rattle.std.proofs.lemmas.Result.{err_from_is_err_and}
use Rattle.text_grammar.proofs.Fit.{test_refused, no_space, all_written}
use Rattle.record_text.specs.Text.{read_record}
use Rattle.record_text.proofs.ReadText.{accepted_short}
use Rattle.record_write.proofs.write_record.Goals as goal

pub returns-in_err-test_record : goal.returns-in_err-test_record
returns-in_err-test_record c =
    let q = c.in_err-test_record.was in
    let p = err_from_is_err_and c.from_residual.result c.from_residual.ensures.1 in
    rw (p.1, p.2) (search (rules, test_refused read_record 16384 accepted_short))

pub returns-then-out-put_record : goal.returns-then-out-put_record
returns-then-out-put_record c = let q = c.in_ok-test_record.was in search (rules, no_space read_record 16384 accepted_short)

pub returns : goal.returns
returns c = let q = c.in_ok-test_record.was in search (rules, all_written read_record 16384 accepted_short)
