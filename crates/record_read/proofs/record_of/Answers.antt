use Rattle.record_read.proofs.Lines.{least_held, none_held}
use Rattle.record_read.proofs.record_of.Goals as goal

pub returns-in-Some : goal.returns-in-Some
returns-in-Some c = search least_held

pub returns-in-None : goal.returns-in-None
returns-in-None c = search none_held
