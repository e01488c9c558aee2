use Rattle.axis_solve.specs.Growth.{Raised}
use Rattle.axis_solve.proofs.growth.raise.Given as goal

-- the first k nodes are done
abbrev pub invariant-loop-k : goal.invariant-loop-k
invariant-loop-k l = Raised l.rank l.d l.x l.y l.k
