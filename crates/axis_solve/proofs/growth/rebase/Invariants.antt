use Rattle.axis_graph.specs.Graph.{at}
use Rattle.axis_solve.specs.Growth.{Shifted}
use Rattle.axis_solve.proofs.growth.rebase.Given as goal

-- the first k values are moved
abbrev pub invariant-loop-k : goal.invariant-loop-k
invariant-loop-k l = Shifted (at l.x 0) l.x l.y l.k
