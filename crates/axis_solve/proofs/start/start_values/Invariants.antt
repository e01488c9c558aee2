use Rattle.axis_solve.proofs.Starts.{Starting}
use Rattle.axis_solve.proofs.start.start_values.Given as goal

-- the ends of the first j nets have their values; these nets have the first `from` pins
abbrev pub invariant-loop-j : goal.invariant-loop-j
invariant-loop-j l = Starting l.n l.base l.nets l.pins l.x l.y l.from l.j
