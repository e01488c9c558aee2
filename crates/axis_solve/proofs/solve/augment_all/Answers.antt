use native.Mathlib.Omega.{arith}
use Prim.Native.Nat.{◌<◌}
use lib.ListN.{length-take}
use lib.Seq.{get_or-take}
use Rattle.axis_graph.specs.Solved.{no_span}
use Rattle.axis_solve.proofs.AllNets.{flows_none, flows_spare, flows_more}
use Rattle.axis_solve.proofs.solve.augment_all.Goals as goal

pub loop-p-init : goal.loop-p-init
loop-p-init c = search flows_none

pub augment-t-requires-clause-spare : goal.augment-t-requires-clause-spare
augment-t-requires-clause-spare c =
    let l : c.loop-p.p-index < c.args.count = omega (arith, length-take c.args.count c.args.nets) in
    rw (get_or-take c.args.count c.args.nets c.loop-p.p-index no_span l) (search flows_spare)

pub loop-p-preserved : goal.loop-p-preserved
loop-p-preserved c =
    let l : c.loop-p.p-index < c.args.count = omega (arith, length-take c.args.count c.args.nets) in
    flows_more _ _ _ _ _ c.loop-p.invariant _ _ (rw (get_or-take c.args.count c.args.nets c.loop-p.p-index no_span l) at c.augment-t.ensures)
