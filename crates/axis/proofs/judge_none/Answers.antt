use Rattle.axis_held.proofs.HeldAxes.{Shaped, shaped}
use Rattle.axis.proofs.Judged.{chain_shown}
use Rattle.axis.proofs.judge_none.Goals as goal
use Rattle.axis.proofs.judge_none.Goals.{After-macro_graph}

-- the axis's arrays are as long as its type says
shape : (t : After-macro_graph) → Shaped t.args.a
shape t = search shaped

pub returns-then-is_chain : goal.returns-then-is_chain
returns-then-is_chain c =
    rw c.unsolvable.ensures (chain_shown c.args.a (shape (goal.at.returns-then-is_chain c).After-macro_graph) c.requires _ c.macro_graph.ensures _ _ c.is_chain.ensures c.if-is_chain.true)
