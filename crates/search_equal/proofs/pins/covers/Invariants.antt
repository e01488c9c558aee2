use Rattle.search_equal.specs.Held.{Covers}
use Rattle.search_equal.proofs.pins.covers.Given as goal

abbrev pub invariant-loop-k : goal.invariant-loop-k
invariant-loop-k l = Covers l.pins l.i l.j l.from l.k l.low l.high
