use Rattle.fit_lists.proofs.Corners.{SpotsTo}
use Rattle.fit_lists.proofs.spots_at.Given as goal

abbrev pub invariant-loop-i : goal.invariant-loop-i
invariant-loop-i l = SpotsTo l.xs l.ys l.spots l.i
