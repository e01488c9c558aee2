use Rattle.box_line.proofs.Lines.{net_written}
use borrow.Author.Rules.{rules}
use Rattle.box_line.proofs.put_net.Goals as goal

pub returns : goal.returns
returns c = search (rules, net_written)
