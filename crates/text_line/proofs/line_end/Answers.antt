use Rattle.text_grammar.proofs.LineAt.{ends, end_fits}
use borrow.Author.Rules.{rules}
use Rattle.text_line.proofs.line_end.Goals as goal

pub overflow_add-result : goal.overflow_add-result
overflow_add-result c = search (rules, end_fits)

pub returns : goal.returns
returns c = search ends
