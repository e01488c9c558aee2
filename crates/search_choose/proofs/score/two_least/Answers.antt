use Rattle.search_choose.proofs.Scoring.{least_small}
use Rattle.search_choose.proofs.score.two_least.Goals as goal

pub returns : goal.returns
returns c = search least_small
