use Rattle.std.proofs.Common.{arith}
use Rattle.console.proofs.Start.{beside_of_first}
use Rattle.console.proofs.beside.print_read.Goals as goal

pub returns-in-Ok-print-clause-printed : goal.returns-in-Ok-print-clause-printed
returns-in-Ok-print-clause-printed g c =
    beside_of_first c.args.chip.now _ _ _ (g.W.Write.contents c.args.to.now) (g.W.Write.contents c.print.new.to) (omega arith) c.in-Ok.ensures.bytes c.in-Ok-print.ensures
