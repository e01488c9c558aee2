use native.Mathlib.Omega.{arith}
use lib.ListN.{length-take}
use lib.Seq.{get_or-take}
use Prim.Native.Nat.{◌<◌}
use Rattle.axis_bounds.specs.Axis.{no_net}
use Rattle.axis_held.proofs.Accepting.{nets_none, counts_no, net_no, nets_more}
use Rattle.axis_held.proofs.accept.nets_fine.Goals as goal
use Rattle.axis_held.proofs.accept.nets_fine.Goals.{then-not-counts_fine-via-then-not-counts_fine, then-not-counts_fine-via-else-not-counts_fine+then-not-pins_fine}

pub loop-k-init : goal.loop-k-init
loop-k-init c = search nets_none

pub returns-then-not-counts_fine : goal.returns-then-not-counts_fine
returns-then-not-counts_fine c =
    let l : c.loop-k.k-index < c.args.t = omega (arith, length-take c.args.t c.args.nets.now) in
    let e = get_or-take c.args.t c.args.nets.now c.loop-k.k-index no_net l in
    elim c.then-not-counts_fine.branch [
      | then-not-counts_fine-via-then-not-counts_fine w ↦ counts_no _ _ _ _ _ _ c.loop-k.invariant l _ e _ c.counts_fine.ensures w.if-not-counts_fine.true
      | then-not-counts_fine-via-else-not-counts_fine+then-not-pins_fine w ↦ net_no _ _ _ _ _ _ c.loop-k.invariant l _ e _ c.counts_fine.ensures w.if-not-counts_fine.false _ w.pins_fine.ensures w.if-not-pins_fine.true
    ]

pub loop-k-preserved : goal.loop-k-preserved
loop-k-preserved c =
    let l : c.loop-k.k-index < c.args.t = omega (arith, length-take c.args.t c.args.nets.now) in
    nets_more _ _ _ _ _ _ c.loop-k.invariant l _ (get_or-take c.args.t c.args.nets.now c.loop-k.k-index no_net l) _ c.counts_fine.ensures c.if-not-counts_fine.false _ c.pins_fine.ensures c.if-not-pins_fine.false
