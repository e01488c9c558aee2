use Rattle.axis_held.proofs.Built.{nets_start, net_few, net_twice, net_next, net_room_law, net_put_by, nets_all, pins_start, pins_put_by}
use borrow.Author.Rules.{rules}
use Rattle.axis_held.proofs.build.put_nets.Goals as goal

pub loop-j-init : goal.loop-j-init
loop-j-init c = search nets_start

pub overflow_mul-start : goal.overflow_mul-start
overflow_mul-start c = search net_twice

pub overflow_add-start : goal.overflow_add-start
overflow_add-start c = search net_next

pub loop-i-init : goal.loop-i-init
loop-i-init c = (search net_few, search net_room_law, search pins_start)

pub loop-i-preserved : goal.loop-i-preserved
loop-i-preserved c = (search rules, search rules, search (rules, pins_put_by))

pub loop-j-preserved : goal.loop-j-preserved
loop-j-preserved c =
    net_put_by _ _ _ _ _ _ _ _ _ _ c.loop-j.invariant c.requires.nets_bound c.loop-j-test.true (search rules) (search rules) c.requires.t_bound _ _ c.loop-i.invariant.2 c.loop-i-test.false

pub returns : goal.returns
returns c = search nets_all
