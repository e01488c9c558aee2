use borrow.Author.Rules.{rules}
use Prim.Native.Nat.{◌-◌}
use Rattle.chip_array.proofs.Tables.{filled_none, filled_more, filled_all}
use Rattle.chip_array.proofs.nets_in.Goals as goal

pub loop-i-init : goal.loop-i-init
loop-i-init c = search (rules, filled_none)

pub loop-i-preserved : goal.loop-i-preserved
loop-i-preserved c = search (rules, filled_more)

pub returns : goal.returns
returns c = search (rules, filled_all)
