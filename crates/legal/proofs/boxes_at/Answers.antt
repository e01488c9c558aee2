use Prim.Native.Nat.{◌-◌}
use Rattle.legal.proofs.Boxes.{mac_stored, macs_stored}
use borrow.Author.Rules.{rules}
use Rattle.legal.proofs.boxes_at.Goals as goal

pub loop-i-init : goal.loop-i-init
loop-i-init c = (search rules, search rules)

pub loop-i-preserved : goal.loop-i-preserved
loop-i-preserved c = (search rules, search (rules, mac_stored))

pub returns : goal.returns
returns c = search (rules, macs_stored)
