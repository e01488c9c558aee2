use borrow.Author.Rules.{rules}
use Rattle.search_equal.proofs.Pairing.{net_within, mates_more}
use Rattle.search_equal.proofs.mates.mated.Goals as goal

pub turns-requires : goal.turns-requires
turns-requires c = search (rules, net_within)

pub loop-a-preserved : goal.loop-a-preserved
loop-a-preserved c = mates_more _ _ _ _ _ _ _ _ c.loop-a.invariant c.if-t-b.false c.if-mates-b.false c.turns.ensures (search rules)
