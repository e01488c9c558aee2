use Rattle.search_kept.specs.Differences.{Starts}
use Rattle.search_kept.proofs.closed.Given as goal

abbrev pub invariant-loop-u : goal.invariant-loop-u
invariant-loop-u l = Starts l.initial.e l.e
