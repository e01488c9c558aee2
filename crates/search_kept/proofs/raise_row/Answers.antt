use Rattle.search_kept.proofs.Adding.{follows_none, row_next}
use Rattle.search_kept.proofs.raise_row.Goals as goal

pub loop-q-init : goal.loop-q-init
loop-q-init c = search follows_none

pub loop-q-preserved : goal.loop-q-preserved
loop-q-preserved c = search row_next
