use Rattle.host_fit.proofs.FitDone.{is_less, is_enough, refused_done}
use borrow.Author.Rules.{rules}
use Rattle.host_fit.proofs.fit_chip.Goals as goal

pub returns-then-is_short : goal.returns-then-is_short
returns-then-is_short c = search (rules, refused_done, is_less)

pub long_code-requires : goal.long_code-requires
long_code-requires c = search (rules, is_enough)
