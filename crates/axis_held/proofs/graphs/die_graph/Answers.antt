use mathlib.Core.Path.{◌∙◌}
use Rattle.axis_bounds.specs.Held.{Held}
use Rattle.axis_held.proofs.HeldAxes.{Shaped, shaped}
use Rattle.axis_held.proofs.HeldGraphs.{die_built, graph_held}
use Rattle.axis_held.proofs.graphs.die_graph.Goals as goal
use Rattle.axis_held.proofs.graphs.die_graph.Goals.{Then-is_held}

-- the axis's arrays are as long as its type says
shape : (t : Then-is_held) → Shaped t.args.a
shape t = search shaped

pub returns-then-is_held : goal.returns-then-is_held
returns-then-is_held c =
    let h : Held c.args.a = c.is_held.ensures.holds c.if-is_held.true in
    graph_held c.args.a _ _ h (c.small.ensures ∙ die_built c.args.a (shape (goal.at.returns-then-is_held c).Then-is_held) h _ c.die_slots.ensures)
