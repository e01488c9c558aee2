use borrow.Author.Rules.{rules}
use Rattle.fit_lists.proofs.Corners.{spots_all}
use Rattle.fit_lists.proofs.spots_at.Goals as goal

pub returns : goal.returns
returns c = search (rules, spots_all)
