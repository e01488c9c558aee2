use Rattle.box_line.proofs.Lines.{across_written}
use borrow.Author.Rules.{rules}
use Rattle.box_line.proofs.put_across.Goals as goal

pub returns : goal.returns
returns c = search (rules, across_written)
