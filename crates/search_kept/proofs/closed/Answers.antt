use Rattle.search_kept.proofs.Adding.{starts_none, starts_more}
use Rattle.search_kept.proofs.closed.Goals as goal

pub loop-u-init : goal.loop-u-init
loop-u-init c = search starts_none

pub loop-u-preserved : goal.loop-u-preserved
loop-u-preserved c = search starts_more
