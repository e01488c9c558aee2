use borrow.Author.Rules.{rules}
use Rattle.axis_solve.proofs.Starts.{start_none, start_few, start_fits, start_pins, start_more}
use Rattle.axis_solve.proofs.start.start_values.Goals as goal

pub loop-j-init : goal.loop-j-init
loop-j-init c = search (rules, start_none)

pub net_ends-e-requires : goal.net_ends-e-requires
net_ends-e-requires c =
    record {
      c_bound = search start_few;
      pins_in = search start_pins;
    }

pub overflow_add-from : goal.overflow_add-from
overflow_add-from c = search start_fits

pub loop-j-preserved : goal.loop-j-preserved
loop-j-preserved c = search start_more
