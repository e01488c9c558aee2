use Rattle.std.proofs.Common.{rules}
use Rattle.console.proofs.Reading.{read_more}
use Rattle.console.proofs.files.read_text.Goals as goal

pub loop-done-preserved : goal.loop-done-preserved
loop-done-preserved g c =
    (search rules, search rules, read_more _ _ _ _ _ _ _ c.read_from.ensures.before c.loop-done.invariant.2 c.in_ok-count.ensures.bytes.0)
