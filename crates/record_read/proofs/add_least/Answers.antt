use Rattle.record_read.proofs.Added.{least_added}
use Rattle.record_read.proofs.add_least.Goals as goal

pub returns : goal.returns
returns c = search least_added
