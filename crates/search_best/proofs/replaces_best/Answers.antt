use borrow.Author.Rules.{rules}
use Rattle.search_best.proofs.Chosen.{keeps_best, takes_first, by_length, by_more, by_order}
use Rattle.search_best.proofs.replaces_best.Goals as goal

pub returns-in_default-clause-best_value : goal.returns-in_default-clause-best_value
returns-in_default-clause-best_value c = search (rules, keeps_best)

pub returns-in_default-outcome-clause-best_value : goal.returns-in_default-outcome-clause-best_value
returns-in_default-outcome-clause-best_value c = search (rules, takes_first)

pub returns-then-l-m-clause-best_value : goal.returns-then-l-m-clause-best_value
returns-then-l-m-clause-best_value c = search (rules, by_length)

pub returns-then-l-m-2-clause-best_value : goal.returns-then-l-m-2-clause-best_value
returns-then-l-m-2-clause-best_value c = search (rules, by_order)

pub returns-else-l-m-2-clause-best_value : goal.returns-else-l-m-2-clause-best_value
returns-else-l-m-2-clause-best_value c = search (rules, by_more)
