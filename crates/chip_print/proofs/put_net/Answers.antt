use Rattle.chip_print.proofs.Nets.{net_written}
use borrow.Author.Rules.{rules}
use Rattle.chip_print.proofs.put_net.Goals as goal

pub returns : goal.returns
returns c = search (rules, net_written)
