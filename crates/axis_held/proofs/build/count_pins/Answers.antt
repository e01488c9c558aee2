use native.Mathlib.Omega.{arith}
use Prim.Native.Nat.{◌<◌}
use lib.ListN.{length-take}
use lib.Seq.{get_or-take}
use Rattle.axis_bounds.specs.Axis.{no_net}
use Rattle.axis_held.proofs.Built.{count_none, count_fits, count_more}
use Rattle.axis_held.proofs.build.count_pins.Goals as goal

pub loop-k-init : goal.loop-k-init
loop-k-init c = search count_none

pub overflow_add-c : goal.overflow_add-c
overflow_add-c c =
    let l : c.loop-k.k-index < c.args.t = omega (arith, length-take c.args.t c.args.nets) in
    rw (get_or-take c.args.t c.args.nets c.loop-k.k-index no_net l) (search count_fits)

pub loop-k-preserved : goal.loop-k-preserved
loop-k-preserved c =
    let l : c.loop-k.k-index < c.args.t = omega (arith, length-take c.args.t c.args.nets) in
    rw (get_or-take c.args.t c.args.nets c.loop-k.k-index no_net l) (search count_more)
