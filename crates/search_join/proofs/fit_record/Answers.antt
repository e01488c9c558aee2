use Rattle.search_join.proofs.FitRecords.{prefix_long, fit_past, fit_none, fit_refused, fit_placed}
use borrow.Author.Rules.{rules}
use Rattle.search_join.proofs.fit_record.Goals as goal

pub returns-then-p-gt-LETTERS : goal.returns-then-p-gt-LETTERS
returns-then-p-gt-LETTERS c = search fit_past

pub slice_bounds-fit_letters-end : goal.slice_bounds-fit_letters-end
slice_bounds-fit_letters-end c = search (rules, prefix_long)

pub returns-in-Ok-Some : goal.returns-in-Ok-Some
returns-in-Ok-Some c = search (rules, fit_placed)

pub returns-in-Ok-None : goal.returns-in-Ok-None
returns-in-Ok-None c = search (rules, fit_none)

pub returns-in-Err : goal.returns-in-Err
returns-in-Err c = search (rules, fit_refused)
