use borrow.Author.Rules.{rules}
use Rattle.jizdovel.proofs.Handing.{measure_handed}
use Rattle.jizdovel.proofs.jizdovel_measure.Goals as goal

pub returns : goal.returns
returns c = search (rules, measure_handed)
