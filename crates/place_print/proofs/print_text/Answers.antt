use Rattle.place_print.proofs.Printing.{text_printed}
use borrow.Author.Rules.{rules}
use Rattle.place_print.proofs.print_text.Goals as goal

pub returns : goal.returns
returns c = search (rules, text_printed)
