use Rattle.fit.proofs.Placing.{placed_answer}
use Rattle.fit.proofs.placed.Goals as goal

pub returns : goal.returns
returns c = search placed_answer
