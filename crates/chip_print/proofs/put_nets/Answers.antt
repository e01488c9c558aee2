use Rattle.chip_print.proofs.Nets.{pins_none, nets_none, pins_more, net_more, nets_all}
use Prim.Native.Nat.{◌-◌}
use Rattle.num_text.proofs.Wrote.{wrote_length}
use borrow.Author.Rules.{rules}
use Rattle.chip_print.proofs.put_nets.Goals as goal

pub loop-j-init : goal.loop-j-init
loop-j-init c = (search pins_none, search (rules, nets_none))

pub loop-j-preserved : goal.loop-j-preserved
loop-j-preserved c = (search (rules, pins_more), search (rules, net_more))

pub shape_of-out : goal.shape_of-out
shape_of-out c = search (rules, wrote_length)

pub returns : goal.returns
returns c = search (rules, nets_all)
