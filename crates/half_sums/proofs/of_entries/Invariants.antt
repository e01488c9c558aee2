use Rattle.half_sums.specs.Sums.{EntrySums}
use Rattle.half_sums.proofs.of_entries.Given as goal

abbrev pub invariant-loop-e : goal.invariant-loop-e
invariant-loop-e l = EntrySums l.tab l.st l.o l.e l.high l.low l.hi l.lo l.up l.down
