use Rattle.std.proofs.Common.{rules}
use Rattle.std.proofs.lemmas.Result.{err_from_is_err_and}
use Rattle.box_write.proofs.Writing.{boxed_refused, boxed_no_room, boxed_written}
use Rattle.box_write.proofs.write_boxed.Goals as goal

pub returns-in_err-test_record : goal.returns-in_err-test_record
returns-in_err-test_record c =
    let q = c.in_err-test_record.was in
    let p = err_from_is_err_and c.from_residual.result c.from_residual.ensures.1 in
    rw (p.1, p.2) (search (rules, boxed_refused))

pub returns-then-out-put_boxed : goal.returns-then-out-put_boxed
returns-then-out-put_boxed c = let q = c.in_ok-test_record.was in search (rules, boxed_no_room)

pub returns : goal.returns
returns c = let q = c.in_ok-test_record.was in search (rules, boxed_written)
