use borrow.Author.Rules.{rules}
use Prim.Native.Nat.{◌-◌}
use Rattle.chip_put.proofs.Runs.{items_none, items_more, items_all}
use Rattle.chip_put.proofs.put_macs.Goals as goal

pub loop-i-init : goal.loop-i-init
loop-i-init c = search items_none

pub loop-i-preserved : goal.loop-i-preserved
loop-i-preserved c = search (rules, items_more)

pub returns : goal.returns
returns c = search (rules, items_all)
