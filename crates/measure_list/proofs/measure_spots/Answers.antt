use Rattle.measure_list.proofs.Lists.{first_measured}
use borrow.Author.Rules.{rules}
use Rattle.measure_list.proofs.measure_spots.Goals as goal

pub returns : goal.returns
returns c = search (rules, first_measured)
