use Rattle.axis_amounts.proofs.Gathers.{weigh_none, plus_fits, minus_fits, plus_one, minus_one, plus_idle, minus_idle}
use Rattle.axis_amounts.proofs.outweighs.Goals as goal
use Rattle.axis_amounts.proofs.outweighs.Goals.{then-f-i-gt0, else-f-i-gt0}

pub loop-i-init : goal.loop-i-init
loop-i-init c = (search weigh_none, search weigh_none)

pub overflow_add-p : goal.overflow_add-p
overflow_add-p c = search plus_fits

pub overflow_add-q : goal.overflow_add-q
overflow_add-q c = search minus_fits

pub loop-i-preserved : goal.loop-i-preserved
loop-i-preserved c =
    elim c.if-f-i-gt0.branch [
      | then-f-i-gt0 w ↦ (rw w.p-is (search plus_one), rw w.q-is (search minus_one))
      | else-f-i-gt0 w ↦ (rw w.p-is (search plus_idle), rw w.q-is (search minus_idle))
    ]
