use Rattle.beside_print.proofs.Printing.{passed_too_long, passed_fits}
use borrow.Author.Rules.{rules}
use Rattle.beside_print.proofs.write_passed.Goals as goal

pub returns-then-out-lt7 : goal.returns-then-out-lt7
returns-then-out-lt7 c = search passed_too_long

pub returns : goal.returns
returns c = search (rules, passed_fits)
