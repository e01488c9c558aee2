use Rattle.measure_tests.proofs.Faults.{wrong_count, out_of_range_law, all_pass}
use borrow.Author.Rules.{rules}
use Rattle.measure_tests.proofs.positions_fault.Goals as goal

pub returns-then-count-c : goal.returns-then-count-c
returns-then-count-c c = search (rules, wrong_count)

pub returns-then-not-in_range : goal.returns-then-not-in_range
returns-then-not-in_range c = search (rules, out_of_range_law)

pub returns : goal.returns
returns c = search (rules, all_pass)
