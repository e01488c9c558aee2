use Rattle.num_text.proofs.Wrote.{wrote_then}
use borrow.Author.Rules.{rules}
use Rattle.box_line.proofs.put_end.Goals as goal

pub returns : goal.returns
returns c = search (rules, wrote_then)
