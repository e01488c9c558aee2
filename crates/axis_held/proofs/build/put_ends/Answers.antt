use Rattle.axis_held.proofs.Built.{ends_put, ends_all}
use Rattle.axis_held.proofs.build.put_ends.Goals as goal

pub loop-j-preserved : goal.loop-j-preserved
loop-j-preserved c = rw (c.bound.ensures, c.bound-in-loop-j.ensures) (search ends_put)

pub returns : goal.returns
returns c = search ends_all
