use Rattle.axis_held.proofs.HeldAxes.{Shaped, shaped}
use Rattle.axis.proofs.Judged.{fit_shown}
use Rattle.axis.proofs.shows_fit.Goals as goal
use Rattle.axis.proofs.shows_fit.Goals.{After-whole_graph-g}

-- the axis's arrays are as long as its type says
shape : (t : After-whole_graph-g) → Shaped t.args.a
shape t = search shaped

pub returns-then-is_flow : goal.returns-then-is_flow
returns-then-is_flow c =
    fit_shown c.args.a (shape (goal.at.returns-then-is_flow c).After-whole_graph-g) c.requires _ c.whole_graph-g.ensures _ c.net_spans.ensures _ _ _ _ c.is_flow.ensures c.if-is_flow.true _ c.is_rest.ensures
