use native.Mathlib.Omega.{arith}
use Prim.Native.Nat.{◌<◌}
use lib.ListN.{length-take}
use lib.Seq.{get_or-take}
use Rattle.axis_graph.specs.Solved.{no_span}
use Rattle.axis_amounts.proofs.Gathers.{total_none, weight_fits, weight_more}
use Rattle.axis_amounts.proofs.total.Goals as goal

pub loop-p-init : goal.loop-p-init
loop-p-init c = search total_none

pub overflow_add-w : goal.overflow_add-w
overflow_add-w c =
    let l : c.loop-p.p-index < c.args.count = omega (arith, length-take c.args.count c.args.nets) in
    rw (get_or-take c.args.count c.args.nets c.loop-p.p-index no_span l) (search weight_fits)

pub loop-p-preserved : goal.loop-p-preserved
loop-p-preserved c =
    let l : c.loop-p.p-index < c.args.count = omega (arith, length-take c.args.count c.args.nets) in
    rw (get_or-take c.args.count c.args.nets c.loop-p.p-index no_span l) (search weight_more)
