use Rattle.axis_held.proofs.Placing.{OffsetsTo}
use Rattle.axis_held.proofs.coordinates.coordinates.Given as goal

-- the first k macros have their coordinates
abbrev pub invariant-loop-k : goal.invariant-loop-k
invariant-loop-k l = OffsetsTo l.x l.n l.r l.k
