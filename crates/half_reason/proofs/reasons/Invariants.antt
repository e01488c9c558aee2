use Rattle.half_arrays.specs.State.{flow_at, hi_at, lo_at, rank_at}
use Rattle.half_values.specs.Values.{macros}
use Rattle.half_reason.specs.Reasons.{Reasons}
use Rattle.half_reason.proofs.reasons.Given as goal

abbrev pub invariant-loop-k : goal.invariant-loop-k
invariant-loop-k l = Reasons l.tab l.arcs (flow_at l.st l.o) (hi_at l.st l.o) (lo_at l.st l.o) (macros l.x) (rank_at l.st l.o) l.k
