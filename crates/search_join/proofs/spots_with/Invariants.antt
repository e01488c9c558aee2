use Rattle.search_join.proofs.Cornering.{WithTo}
use Rattle.search_join.proofs.spots_with.Given as goal

abbrev pub invariant-loop-i : goal.invariant-loop-i
invariant-loop-i l = WithTo l.d l.at l.spots l.r l.i
