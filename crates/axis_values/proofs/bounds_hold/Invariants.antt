use Rattle.axis_graph.specs.Graph.{Holds}
use Rattle.axis_values.proofs.bounds_hold.Given as goal

-- the first bounds hold
abbrev pub invariant-loop-s : goal.invariant-loop-s
invariant-loop-s l = Holds l.fn.g.slots l.s-index l.x
