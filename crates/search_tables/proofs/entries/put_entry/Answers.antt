use Rattle.search_tables.proofs.Stores.{entry_put}
use Rattle.search_tables.proofs.entries.put_entry.Goals as goal

pub returns : goal.returns
returns c = search entry_put
