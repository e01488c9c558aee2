use Rattle.measure.proofs.Answers.{length_told}
use Rattle.measure.proofs.length_at.Goals as goal

pub returns : goal.returns
returns c = search length_told
