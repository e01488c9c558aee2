use borrow.Author.Rules.{rules}
use Rattle.std.proofs.lemmas.Result.{err_from_is_err_and}
use Rattle.text_walk.proofs.Means.{walked_inside}
use Rattle.record_read.proofs.OneLine.{line_stops, line_entered, line_adds}
use Rattle.record_read.proofs.next_line.Goals as goal

pub slice_bounds-add_line-end : goal.slice_bounds-add_line-end
slice_bounds-add_line-end c = let q = c.in_ok-walked.was in search walked_inside

pub add_line-requires : goal.add_line-requires
add_line-requires c = let q = c.in_ok-walked.was in let f = c.in_ok-walked.ensures.fits in search (rules, line_entered)

pub returns-in_err-walked : goal.returns-in_err-walked
returns-in_err-walked c = let q = c.in_err-walked.was in let p = err_from_is_err_and c.from_residual.result c.from_residual.ensures.1 in rw (p.1, p.2) (search line_stops)

pub returns : goal.returns
returns c = let q = c.in_ok-walked.was in search line_adds
