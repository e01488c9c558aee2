use Rattle.record_read.proofs.Added.{none_added}
use Rattle.record_read.proofs.add_none.Goals as goal

pub returns : goal.returns
returns c = search none_added
