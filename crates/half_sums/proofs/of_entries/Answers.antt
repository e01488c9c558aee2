use Rattle.half_sums.proofs.Summing.{entries_none, entries_more, entries_all, node_high_fits, node_low_fits, net_high_fits, net_low_fits, up_fits, down_fits, most_product, least_product}
use Rattle.half_sums.proofs.of_entries.Goals as goal

pub loop-e-init : goal.loop-e-init
loop-e-init c = search entries_none

pub overflow_add-high : goal.overflow_add-high
overflow_add-high c = search node_high_fits

pub overflow_add-low : goal.overflow_add-low
overflow_add-low c = search node_low_fits

pub overflow_add-hi : goal.overflow_add-hi
overflow_add-hi c = search net_high_fits

pub overflow_add-lo : goal.overflow_add-lo
overflow_add-lo c = search net_low_fits

pub overflow_mul-up : goal.overflow_mul-up
overflow_mul-up c = search most_product

pub overflow_add-up : goal.overflow_add-up
overflow_add-up c = search up_fits

pub overflow_mul-down : goal.overflow_mul-down
overflow_mul-down c = search least_product

pub overflow_add-down : goal.overflow_add-down
overflow_add-down c = search down_fits

pub loop-e-preserved : goal.loop-e-preserved
loop-e-preserved c = search entries_more

pub returns : goal.returns
returns c = search entries_all
