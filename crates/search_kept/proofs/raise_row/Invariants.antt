use Rattle.search_kept.specs.Differences.{Follows}
use Rattle.search_kept.proofs.raise_row.Given as goal

abbrev pub invariant-loop-q : goal.invariant-loop-q
invariant-loop-q l = Follows l.initial.e l.p l.v l.t l.e
