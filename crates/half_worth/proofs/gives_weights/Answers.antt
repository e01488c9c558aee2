use Rattle.half_arrays.proofs.Answers.{says_no}
use Rattle.half_worth.proofs.Passing.{given_none, given_next, given_all}
use Rattle.half_worth.proofs.gives_weights.Goals as goal

pub loop-j-init : goal.loop-j-init
loop-j-init c = search given_none

pub returns-then-e-j : goal.returns-then-e-j
returns-then-e-j c = search says_no

pub loop-j-preserved : goal.loop-j-preserved
loop-j-preserved c = search given_next

pub returns : goal.returns
returns c = search given_all
