use Rattle.jizdovel.proofs.Handing.{read_handed}
use borrow.Author.Rules.{rules}
use Rattle.jizdovel.proofs.jizdovel_check_record.Goals as goal

pub returns : goal.returns
returns c = search (rules, read_handed)
