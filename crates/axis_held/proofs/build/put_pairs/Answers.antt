use borrow.Author.Rules.{rules}
use Rattle.axis_held.proofs.Built.{copied}
use Rattle.axis_held.proofs.build.put_pairs.Goals as goal

pub returns : goal.returns
returns c = rw c.copy_from_slice.ensures.after (search (rules, copied))
