use Rattle.text_put.proofs.Joined.{line_written}
use borrow.Author.Rules.{rules}
use Rattle.text_put.proofs.put_line.Goals as goal

pub returns : goal.returns
returns c = search (rules, line_written)
