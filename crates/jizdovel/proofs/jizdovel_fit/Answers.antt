use borrow.Author.Rules.{rules}
use Rattle.jizdovel.proofs.Handing.{fit_handed, fit_filled, fit_corners}
use Rattle.jizdovel.proofs.jizdovel_fit.Goals as goal

pub returns : goal.returns
returns c = record {
  value_after = search (rules, fit_handed);
  slots_filled = search (rules, fit_filled);
  positions_after = search (rules, fit_corners);
}
