use Rattle.half_arrays.proofs.Answers.{says_no}
use Rattle.half_fit.proofs.Chains.{chain_starts, sum_adds, sum_stays, chain_more, chain_closes}
use Rattle.std.proofs.Common.{rules}
use Rattle.half_fit.proofs.none.closes.Goals as goal

pub loop-turn-init : goal.loop-turn-init
loop-turn-init c = (search rules, search chain_starts, search rules)

pub overflow_add-sum : goal.overflow_add-sum
overflow_add-sum c = search sum_adds

pub returns-then-p-a : goal.returns-then-p-a
returns-then-p-a c = search chain_closes

pub loop-turn-preserved : goal.loop-turn-preserved
loop-turn-preserved c = (search rules, search chain_more, search sum_stays)

pub returns : goal.returns
returns c = search says_no
