use Rattle.axis_held.proofs.Accepting.{NetsRead}
use Rattle.axis_held.proofs.accept.nets_fine.Given as goal

-- the first nets are within the limits, and have the first `from` pins
abbrev pub invariant-loop-k : goal.invariant-loop-k
invariant-loop-k l = NetsRead l.n l.nets l.pins l.from l.k-index
