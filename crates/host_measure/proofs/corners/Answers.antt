use Prim.Native.Nat.{◌-◌}
use borrow.Author.Rules.{rules}
use Rattle.host_measure.proofs.CornersRead.{corners_none, corners_more, corners_all}
use Rattle.host_measure.proofs.corners.Goals as goal

pub loop-i-init : goal.loop-i-init
loop-i-init c = search (rules, corners_none)

pub loop-i-preserved : goal.loop-i-preserved
loop-i-preserved c = search (rules, corners_more)

pub returns : goal.returns
returns c = search (rules, corners_all)
