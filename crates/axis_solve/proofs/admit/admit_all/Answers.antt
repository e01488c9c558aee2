use Rattle.std.proofs.lemmas.Result.{err_from_is_err_and}
use Rattle.axis_solve.proofs.AllBounds.{admitting_more, admitting_refuted}
use Rattle.axis_solve.proofs.admit.admit_all.Goals as goal

pub returns-in_err-x : goal.returns-in_err-x
returns-in_err-x c =
    let p = err_from_is_err_and c.from_residual.result c.from_residual.ensures.1 in
    rw (p.1, p.2) (admitting_refuted _ _ _ _ _ _ c.loop-j.invariant c.loop-j-test.true c.requires.to_le_slot_room _ c.in_err-x.ensures)

pub loop-j-preserved : goal.loop-j-preserved
loop-j-preserved c =
    admitting_more _ _ _ _ _ _ c.loop-j.invariant c.loop-j-test.true c.requires.to_le_slot_room _ c.in_ok-x.ensures
