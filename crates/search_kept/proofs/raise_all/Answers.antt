use Rattle.search_kept.proofs.Adding.{follows_none, follows_more}
use Rattle.search_kept.proofs.raise_all.Goals as goal

pub loop-p-init : goal.loop-p-init
loop-p-init c = search follows_none

pub loop-p-preserved : goal.loop-p-preserved
loop-p-preserved c = search follows_more
