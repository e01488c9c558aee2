use Prim.Native.Nat.{◌-◌}
use borrow.Author.Rules.{rules}
use Rattle.host_lists.proofs.CornersStored.{stored_none, stored_long, stored_more, stored_asked, stored_all}
use Rattle.host_lists.proofs.put_corners.Goals as goal

pub loop-i-init : goal.loop-i-init
loop-i-init c = (search rules, search (rules, stored_none))

pub shape_of-list-then-n-i : goal.shape_of-list-then-n-i
shape_of-list-then-n-i c = search (rules, stored_long)

pub returns-then-n-i : goal.returns-then-n-i
returns-then-n-i c = search (rules, stored_asked)

pub loop-i-preserved : goal.loop-i-preserved
loop-i-preserved c = (search rules, stored_more _ _ _ _ c.loop-i.invariant.1 c.loop-i-test.true (search rules) _ _ c.put.ensures c.put-in-loop-i.ensures)

pub shape_of-list : goal.shape_of-list
shape_of-list c = search (rules, stored_long)

pub returns : goal.returns
returns c = search (rules, stored_all)
