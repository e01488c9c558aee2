use Rattle.search_tables.proofs.Stores.{bound_put}
use Rattle.search_tables.proofs.with_bound.Goals as goal

pub returns : goal.returns
returns c = search bound_put
