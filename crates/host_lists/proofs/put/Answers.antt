use borrow.Author.Rules.{rules}
use Rattle.num_laws.proofs.Stores.{set_past}
use Rattle.host_lists.proofs.put.Goals as goal

pub returns-else-at-list : goal.returns-else-at-list
returns-else-at-list c = search (rules, set_past)
