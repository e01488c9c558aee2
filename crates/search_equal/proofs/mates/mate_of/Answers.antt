use borrow.Author.Rules.{rules}
use Rattle.search_equal.proofs.Pairing.{net_within}
use Rattle.search_equal.proofs.mates.mate_of.Goals as goal

pub turns-requires : goal.turns-requires
turns-requires c = search (rules, net_within)

pub turns-requires-then-turns : goal.turns-requires-then-turns
turns-requires-then-turns c = search (rules, net_within)
