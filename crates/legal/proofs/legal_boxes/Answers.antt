use Rattle.legal.proofs.InTurn.{fixes_tested, tested_all}
use borrow.Author.Rules.{rules}
use Rattle.legal.proofs.legal_boxes.Goals as goal

pub returns-then-n-gt-COUNT : goal.returns-then-n-gt-COUNT
returns-then-n-gt-COUNT c = search (rules, tested_all)

pub returns : goal.returns
returns c = search fixes_tested
