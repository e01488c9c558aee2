use Rattle.box_print.proofs.Printed.{found_written}
use borrow.Author.Rules.{rules}
use Rattle.box_print.proofs.put_net_box.Goals as goal

pub returns : goal.returns
returns c = search (rules, found_written)
