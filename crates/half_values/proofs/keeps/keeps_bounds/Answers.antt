use Rattle.half_values.proofs.Keeping.{keeps_none, have_adds, need_adds, keeps_next, keeps_all_law}
use Rattle.half_arrays.proofs.Answers.{says_no}
use Rattle.half_values.proofs.keeps.keeps_bounds.Goals as goal

pub loop-c-init : goal.loop-c-init
loop-c-init c = search keeps_none

pub overflow_add-x : goal.overflow_add-x
overflow_add-x c = search have_adds

pub overflow_add-x-in-loop-c : goal.overflow_add-x-in-loop-c
overflow_add-x-in-loop-c c = search need_adds

pub returns-then-x-c : goal.returns-then-x-c
returns-then-x-c c = search says_no

pub loop-c-preserved : goal.loop-c-preserved
loop-c-preserved c = search keeps_next

pub returns : goal.returns
returns c = search keeps_all_law
