use borrow.Author.Rules.{rules}
use Rattle.axis_held.proofs.Built.{spans_none}
use Rattle.axis_held.proofs.build.spans.Goals as goal

pub loop-j-init : goal.loop-j-init
loop-j-init c = (search rules, search spans_none)
