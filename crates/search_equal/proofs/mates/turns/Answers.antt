use borrow.Author.Rules.{rules}
use Rattle.search_equal.proofs.Pairing.{end_fits, net_ends, net_turns}
use Rattle.search_equal.proofs.mates.turns.Goals as goal

pub overflow_add-from : goal.overflow_add-from
overflow_add-from c = search end_fits

pub overflow_add-low : goal.overflow_add-low
overflow_add-low c = search end_fits

pub covers-requires : goal.covers-requires
covers-requires c = search (rules, net_ends)

pub returns-then-same_weight : goal.returns-then-same_weight
returns-then-same_weight c = search net_turns
