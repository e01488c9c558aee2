use Rattle.fit.proofs.Answering.{second_idle, second_solved}
use Rattle.fit.proofs.second.Goals as goal

pub returns-then-not-is_solved : goal.returns-then-not-is_solved
returns-then-not-is_solved c = search second_idle

pub returns : goal.returns
returns c = search second_solved
