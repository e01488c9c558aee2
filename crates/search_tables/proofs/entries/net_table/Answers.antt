use mathlib.Core.Path.{refl}
use Rattle.search_tables.proofs.NetTables.{nets_none, table_done}
use Rattle.search_tables.proofs.entries.net_table.Goals as goal

pub put_nets-e-requires-clause-nets_in : goal.put_nets-e-requires-clause-nets_in
put_nets-e-requires-clause-nets_in c = nets_none _ _ _ _ refl

pub returns : goal.returns
returns c = search table_done
