use Rattle.axis_graph.specs.Above.{NoneAbove}
use Rattle.axis_graph.specs.Graph.{Decides}
use Rattle.axis_graph.proofs.Answers.{both_then, both_else}
use Rattle.axis_held.specs.Accept.{PairsTo, FrameTo}
use Rattle.axis_held.proofs.HeldAxes.{shaped, held_all, held_none}
use Rattle.axis_held.proofs.accept.is_held.Goals as goal
use Rattle.axis_held.proofs.accept.is_held.Goals.{Joined-sizes_fine, then-frame_fine, else-frame_fine, then-sizes_fine, else-sizes_fine}

-- what the tests before that of the nets say
before : (c : Joined-sizes_fine) → Decides c.if-sizes_fine.value ((FrameTo c.args.a × NoneAbove 8192 c.args.a.sizes c.args.a.n) × PairsTo c.args.a.n c.args.a.pairs c.args.a.p)
before c =
    let f : Decides c.if-frame_fine.value (FrameTo c.args.a × NoneAbove 8192 c.args.a.sizes c.args.a.n) = elim c.if-frame_fine.branch [ then-frame_fine w ↦ both_then _ _ _ c.frame_fine.ensures w.if-frame_fine.true w.sizes_fine.ensures w.value-is | else-frame_fine w ↦ both_else _ _ c.frame_fine.ensures w.if-frame_fine.false w.value-is ] in
    elim c.if-sizes_fine.branch [ then-sizes_fine w ↦ both_then _ _ _ f w.if-sizes_fine.true w.pairs_fine.ensures w.value-is | else-sizes_fine w ↦ both_else _ _ f w.if-sizes_fine.false w.value-is ]

pub returns-then-pairs_fine : goal.returns-then-pairs_fine
returns-then-pairs_fine c =
    held_all c.args.a (search shaped) _ _ (before (goal.at.returns-then-pairs_fine c).Joined-sizes_fine) c.if-pairs_fine.true c.nets_fine.ensures

pub returns-else-pairs_fine : goal.returns-else-pairs_fine
returns-else-pairs_fine c =
    held_none c.args.a (search shaped) _ (before (goal.at.returns-else-pairs_fine c).Joined-sizes_fine) c.if-pairs_fine.false
