use native.Mathlib.Omega.{arith}
use Rattle.axis_solve.proofs.Slacks.{least_tight, scan_skip, scan_keep, scan_take}
use Rattle.axis_solve.proofs.growth.least_leaving.Goals as goal
use Rattle.axis_solve.proofs.growth.least_leaving.Goals.{then-leaves+else-by-eq0+then-is_less, then-leaves+else-by-eq0+else-is_less, else-leaves}

pub returns-then-by-eq0 : goal.returns-then-by-eq0
returns-then-by-eq0 c =
    (omega arith, least_tight _ _ _ _ _ c.loop-i.i c.loop-i-test.true _ c.leaves.ensures c.if-leaves.true c.if-by-eq0.true)

pub loop-i-preserved : goal.loop-i-preserved
loop-i-preserved c =
    let h = c.loop-i.invariant in
    let m = c.requires.values_within.most in
    let f = (c.requires.graph_within.fine c.loop-i.i c.loop-i-test.true).minus in
    elim c.if-leaves.branch [
      | then-leaves+else-by-eq0+then-is_less w ↦ rw w.best-is (scan_take c.args.g.slots c.args.g.m c.args.f c.args.x c.args.rank c.loop-i.i c.leaves.result c.leaves.ensures w.if-leaves.true c.loop-i-test.true (omega (arith, m)) _ h _ w.is_less.ensures w.if-is_less.true)
      | then-leaves+else-by-eq0+else-is_less w ↦ rw w.best-is (scan_keep c.args.g.slots c.args.g.m c.args.f c.args.x c.args.rank c.loop-i.i c.leaves.result c.leaves.ensures _ h _ w.is_less.ensures w.if-is_less.false)
      | else-leaves w ↦ rw w.best-is (scan_skip c.args.g.slots c.args.g.m c.args.f c.args.x c.args.rank c.loop-i.i c.leaves.result c.leaves.ensures _ h w.if-leaves.false)
    ]
