use borrow.Author.Rules.{rules}
use Rattle.search_best.proofs.Earlier.{over, by_x_law, by_y_law, same_corner}
use Rattle.search_best.proofs.comes_before.Goals as goal

pub returns-then-p-q : goal.returns-then-p-q
returns-then-p-q c = search (rules, by_x_law)

pub returns-then-p-q-2 : goal.returns-then-p-q-2
returns-then-p-q-2 c = search (rules, by_y_law)

pub loop-i-preserved : goal.loop-i-preserved
loop-i-preserved c = search (rules, same_corner)

pub returns : goal.returns
returns c = search (rules, over)
