use native.Mathlib.Omega.{arith}
use Prim.Native.Nat.{◌<◌}
use lib.ListN.{length-take}
use lib.Seq.{get_or-take}
use Rattle.axis_graph.specs.Solved.{no_span}
use Rattle.axis_amounts.proofs.Gathers.{nets_addable, net_room_law, summed_none, summed_more}
use Rattle.axis_amounts.proofs.net_sums.Goals as goal

pub loop-p-init : goal.loop-p-init
loop-p-init c = summed_none _ _ _ _ _ _ (nets_addable _ _ _ c.requires.modest _ c.requires.spanned)

pub carry-requires : goal.carry-requires
carry-requires c =
    let l : c.loop-p.p-index < c.args.count = omega (arith, length-take c.args.count c.args.nets) in
    rw (get_or-take c.args.count c.args.nets c.loop-p.p-index no_span l) (search net_room_law)

pub loop-p-preserved : goal.loop-p-preserved
loop-p-preserved c =
    let l : c.loop-p.p-index < c.args.count = omega (arith, length-take c.args.count c.args.nets) in
    let e = get_or-take c.args.count c.args.nets c.loop-p.p-index no_span l in
    summed_more _ _ _ _ _ _ (nets_addable _ _ _ c.requires.modest _ c.requires.spanned) _ _ _ c.loop-p.invariant l _ _ (rw e at c.carry.ensures.into_after) (rw e at c.carry.ensures.out_after)
