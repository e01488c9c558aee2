use Rattle.std.proofs.Common.{arith}
use Rattle.console.proofs.Start.{printed_of_start}
use Rattle.console.proofs.texts.print_read.Goals as goal

pub returns-in-Ok-print-clause-printed : goal.returns-in-Ok-print-clause-printed
returns-in-Ok-print-clause-printed g c =
    printed_of_start c.args.program _ _ _ (g.W.Write.contents c.args.to.now) (g.W.Write.contents c.print.new.to) (omega arith) c.in-Ok.ensures.bytes c.in-Ok-print.ensures
