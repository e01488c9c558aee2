use Rattle.half_sums.proofs.Summing.{flows_none, flows_same, flows_more, flows_all, into_fits, out_fits, all_fits, bound_product, by_fits}
use Rattle.half_sums.proofs.of_bounds.Goals as goal
use Rattle.half_sums.proofs.of_bounds.Goals.{then-a-gt0, else-a-gt0}

pub loop-c-init : goal.loop-c-init
loop-c-init c = search flows_none

pub overflow_add-into : goal.overflow_add-into
overflow_add-into c = search into_fits

pub overflow_add-out : goal.overflow_add-out
overflow_add-out c = search out_fits

pub overflow_add-all : goal.overflow_add-all
overflow_add-all c = search all_fits

pub overflow_mul-by : goal.overflow_mul-by
overflow_mul-by c = search bound_product

pub overflow_add-by : goal.overflow_add-by
overflow_add-by c = search by_fits

pub loop-c-preserved : goal.loop-c-preserved
loop-c-preserved c = elim c.if-a-gt0.branch [
  | then-a-gt0 w ↦ rw (w.into-is, w.out-is, w.all-is, w.by-is) (search flows_more)
  | else-a-gt0 w ↦ rw (w.into-is, w.out-is, w.all-is, w.by-is) (search flows_same)
]

pub returns : goal.returns
returns c = search flows_all
