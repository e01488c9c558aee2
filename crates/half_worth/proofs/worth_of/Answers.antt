use Rattle.std.proofs.Common.{rules}
use Rattle.half_arrays.proofs.Ranges.{count_most}
use Rattle.half_sums.proofs.Summing.{into_small, out_small, low_small, high_small}
use Rattle.half_worth.proofs.Worths.{more_fits, base_fits, less_fits, worth_is}
use Rattle.half_worth.proofs.Passing.{both_pass}
use Rattle.half_arrays.proofs.Answers.{says_no}
use Rattle.half_worth.proofs.worth_of.Goals as goal
use Rattle.half_worth.proofs.worth_of.Goals.{then-balances, else-balances}

pub balances-requires : goal.balances-requires
balances-requires c = (search (rules, into_small), search (rules, out_small), search (low_small, count_most), search (high_small, count_most))

pub overflow_add-result : goal.overflow_add-result
overflow_add-result c = search more_fits

pub overflow_mul-result : goal.overflow_mul-result
overflow_mul-result c = search base_fits

pub overflow_add-result-2 : goal.overflow_add-result-2
overflow_add-result-2 c = search less_fits

pub returns-clause-worth_sums : goal.returns-clause-worth_sums
returns-clause-worth_sums c = search (rules, worth_is)

pub returns-clause-says : goal.returns-clause-says
returns-clause-says c = elim c.if-balances.branch [ then-balances w ↦ rw w.passes-is (search both_pass) | else-balances w ↦ rw (w.passes-is, w.if-balances.false) (search says_no) ]
