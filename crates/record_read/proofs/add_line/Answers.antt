use borrow.Author.Rules.{rules}
use Rattle.std.proofs.lemmas.Result.{err_from_is_err_and}
use Rattle.record_read.proofs.OneLine.{line_read_as, fields_add, fields_fault}
use Rattle.record_read.proofs.add_line.Goals as goal

pub add_item-requires : goal.add_item-requires
add_item-requires c = let q = c.in_ok-values.was in search (rules, line_read_as)

pub returns-in_err-values : goal.returns-in_err-values
returns-in_err-values c = let q = c.in_err-values.was in let p = err_from_is_err_and c.from_residual.result c.from_residual.ensures.1 in rw (p.1, p.2) (search fields_fault)

pub returns : goal.returns
returns c = let q = c.in_ok-values.was in search fields_add
