use borrow.Author.Rules.{rules}
use Rattle.std.proofs.lemmas.Result.{err_from_is_err_and}
use Rattle.record_read.proofs.Lines.{refuses, all_left, empty_sound, line_fails, line_read, all_read}
use Rattle.record_read.proofs.read_lines.Goals as goal

pub loop-a-init : goal.loop-a-init
loop-a-init c = (search rules, search rules, search empty_sound, search all_left)

pub loop-a-preserved : goal.loop-a-preserved
loop-a-preserved c = let q = c.in_ok-s.was in (search rules, search rules, c.in_ok-s.ensures.sound, search line_read)

pub returns-in_err-s : goal.returns-in_err-s
returns-in_err-s c = let q = c.in_err-s.was in let p = err_from_is_err_and c.from_residual.result c.from_residual.ensures.1 in rw (p.1, p.2) (search (refuses, line_fails))

pub returns : goal.returns
returns c = search all_read
