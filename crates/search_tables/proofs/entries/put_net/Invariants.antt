use Rattle.search_tables.proofs.NetTables.{InNet}
use Rattle.search_tables.proofs.entries.put_net.Given as goal

abbrev pub invariant-loop-node : goal.invariant-loop-node
invariant-loop-node l = InNet l.d l.nets l.pins l.j l.from l.initial.tab l.tab l.next l.node
