use Rattle.search_left.proofs.FourChildren.{sought_start, sought_taken, sought_left}
use Rattle.search_left.proofs.first_child.Goals as goal
use Rattle.search_left.proofs.first_child.Goals.{then-replaces_best, else-replaces_best}

pub loop-i-init : goal.loop-i-init
loop-i-init c = search sought_start

pub loop-i-preserved : goal.loop-i-preserved
loop-i-preserved c =
    elim c.if-replaces_best.branch [
      | then-replaces_best w ↦ rw (w.best-is, w.at-is) (search sought_taken)
      | else-replaces_best w ↦ rw (w.best-is, w.at-is) (search sought_left)
    ]
