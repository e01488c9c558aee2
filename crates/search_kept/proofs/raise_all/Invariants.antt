use Rattle.search_kept.specs.Differences.{Follows}
use Rattle.search_kept.proofs.raise_all.Given as goal

abbrev pub invariant-loop-p : goal.invariant-loop-p
invariant-loop-p l = Follows l.initial.e l.u l.v l.b l.e
