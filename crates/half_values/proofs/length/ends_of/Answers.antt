use Rattle.half_values.proofs.Lengths.{ends_none, highest_adds, lowest_adds, ends_more, net_ends_all}
use Rattle.half_values.proofs.length.ends_of.Goals as goal

pub loop-e-init : goal.loop-e-init
loop-e-init c = search ends_none

pub overflow_add-v : goal.overflow_add-v
overflow_add-v c = search highest_adds

pub overflow_add-v-in-loop-e : goal.overflow_add-v-in-loop-e
overflow_add-v-in-loop-e c = search lowest_adds

pub loop-e-preserved : goal.loop-e-preserved
loop-e-preserved c = search ends_more

pub returns : goal.returns
returns c = search net_ends_all
