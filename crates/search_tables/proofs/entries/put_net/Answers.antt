use borrow.Author.Rules.{rules}
use Rattle.search_tables.proofs.NetTables.{net_ends, net_skips, net_fits, next_fits, net_enters, net_done}
use Rattle.search_tables.proofs.entries.put_net.Goals as goal
use Rattle.search_tables.proofs.entries.put_net.Goals.{then-s, else-s}

pub overflow_add-from : goal.overflow_add-from
overflow_add-from c = search (rules, net_fits)

pub node_span-s-requires : goal.node_span-s-requires
node_span-s-requires c = search (rules, net_ends)

pub overflow_add-next : goal.overflow_add-next
overflow_add-next c = search (rules, next_fits)

pub loop-node-preserved : goal.loop-node-preserved
loop-node-preserved c =
    elim c.if-s.branch [
      | then-s w ↦ rw (w.tab-is, w.next-is) (search net_enters)
      | else-s w ↦ rw (w.tab-is, w.next-is) (search net_skips)
    ]

pub returns : goal.returns
returns c = search net_done
