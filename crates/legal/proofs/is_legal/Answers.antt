use Rattle.legal.proofs.InTurn.{boxes_legal}
use borrow.Author.Rules.{rules}
use Rattle.legal.proofs.is_legal.Goals as goal

pub returns : goal.returns
returns c = search (rules, boxes_legal)
