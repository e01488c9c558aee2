use Rattle.half_arrays.proofs.Answers.{says_no}
use Rattle.half_worth.proofs.Passing.{level_none, small_fits, level_next, level_all}
use Rattle.half_worth.proofs.balances.Goals as goal

pub loop-k-init : goal.loop-k-init
loop-k-init c = search level_none

pub overflow_add-b : goal.overflow_add-b
overflow_add-b c = search small_fits

pub overflow_add-b-in-loop-k : goal.overflow_add-b-in-loop-k
overflow_add-b-in-loop-k c = search small_fits

pub returns-then-b-k : goal.returns-then-b-k
returns-then-b-k c = search says_no

pub loop-k-preserved : goal.loop-k-preserved
loop-k-preserved c = search level_next

pub returns : goal.returns
returns c = search level_all
