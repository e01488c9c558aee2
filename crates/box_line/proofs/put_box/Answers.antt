use Rattle.box_line.proofs.Lines.{box_written}
use borrow.Author.Rules.{rules}
use Rattle.box_line.proofs.put_box.Goals as goal

pub returns : goal.returns
returns c = search (rules, box_written)
