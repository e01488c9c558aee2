use Rattle.chip_read.proofs.Lines.{refuses, complete, not_complete}
use Rattle.chip_read.proofs.finish.Goals as goal

pub returns-then-not-following : goal.returns-then-not-following
returns-then-not-following c = search (refuses, not_complete)

pub returns : goal.returns
returns c = search complete
