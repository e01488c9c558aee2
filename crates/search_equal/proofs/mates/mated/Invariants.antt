use Rattle.search_equal.specs.Held.{MatesTo}
use Rattle.search_equal.proofs.mates.mated.Given as goal

abbrev pub invariant-loop-a : goal.invariant-loop-a
invariant-loop-a l = MatesTo l.nets l.pins l.t l.i l.j l.mates l.a
