use Rattle.axis_solve.proofs.Turns.{Augmenting}
use Rattle.axis_solve.proofs.augment.augment.Given as goal

-- what is left of the weight
abbrev pub invariant-loop-weight : goal.invariant-loop-weight
invariant-loop-weight l = Augmenting l.g l.fn.f l.lo l.hi l.fn.weight l.x l.f l.weight

abbrev pub decreases-loop-weight : goal.decreases-loop-weight
decreases-loop-weight l = l.weight
