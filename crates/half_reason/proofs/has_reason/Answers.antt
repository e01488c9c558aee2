use Rattle.half_reason.proofs.Reasoning.{reason_says}
use Rattle.half_reason.proofs.has_reason.Goals as goal

pub returns-then-rank : goal.returns-then-rank
returns-then-rank c = search reason_says
