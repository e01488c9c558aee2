use Rattle.record_read.proofs.Added.{done_added}
use Rattle.record_read.proofs.add_done.Goals as goal

pub returns : goal.returns
returns c = search done_added
