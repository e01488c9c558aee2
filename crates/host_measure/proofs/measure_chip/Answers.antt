use Rattle.host_measure.proofs.MeasureRead.{wrong_count, two_each, right_count}
use borrow.Author.Rules.{rules}
use Rattle.host_measure.proofs.measure_chip.Goals as goal

pub returns-then-no-ne0 : goal.returns-then-no-ne0
returns-then-no-ne0 c = search (rules, wrong_count)

pub corners-requires : goal.corners-requires
corners-requires c = search (rules, two_each)

pub returns : goal.returns
returns c = search (rules, right_count)
