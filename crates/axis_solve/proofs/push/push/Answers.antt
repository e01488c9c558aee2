use Rattle.axis_solve.proofs.Pushes.{walk_forward, walk_back}
use Rattle.axis_solve.proofs.push.push.Goals as goal

pub loop-c-preserved-then-s-c : goal.loop-c-preserved-then-s-c
loop-c-preserved-then-s-c c = search walk_forward

pub loop-c-preserved : goal.loop-c-preserved
loop-c-preserved c = search walk_back
