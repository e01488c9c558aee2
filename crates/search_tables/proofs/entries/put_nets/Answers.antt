use borrow.Author.Rules.{rules}
use Rattle.search_tables.proofs.NetTables.{net_within, net_begun, net_few, nets_more, from_more, from_fits, from_none}
use Rattle.search_tables.proofs.entries.put_nets.Goals as goal

pub loop-j-init : goal.loop-j-init
loop-j-init c = (search from_none, search rules)

pub put_net-e-requires : goal.put_net-e-requires
put_net-e-requires c = search (rules, net_within, net_few, net_begun)

pub overflow_add-from : goal.overflow_add-from
overflow_add-from c = search (rules, from_fits)

pub loop-j-preserved : goal.loop-j-preserved
loop-j-preserved c = (search from_more, nets_more _ _ _ c.args.t (search rules) (search rules) c.loop-j.j (search rules) _ _ c.loop-j.invariant.1 _ _ _ _ c.narrow-in-loop-j.ensures c.put_net-e.ensures)
