use Rattle.host_fit.proofs.FitDone.{long_placed, long_none, long_refused}
use borrow.Author.Rules.{rules}
use Rattle.host_fit.proofs.long_code.Goals as goal

pub returns-in-Ok-Some : goal.returns-in-Ok-Some
returns-in-Ok-Some c = long_placed _ c.requires.passed _ _ _ _ c.requires.n_in_bounds _ c.fit_letters-a.ensures.value c.fit_letters-a.ensures.filled _ c.in-Ok-Some.f (search rules) c.fit_code.ensures _ c.put_corners.ensures

pub returns-in-Ok-None : goal.returns-in-Ok-None
returns-in-Ok-None c = long_none _ c.requires.passed _ _ _ _ c.requires.n_in_bounds _ c.fit_letters-a.ensures.value c.fit_letters-a.ensures.filled _ (search rules) c.fit_code-in-Ok-None.ensures

pub returns-in-Err : goal.returns-in-Err
returns-in-Err c = search (rules, long_refused)
