use Rattle.axis_solve.proofs.Seeds.{seed_growing}
use Rattle.axis_solve.proofs.Turns.{turn_pushable, turn_ok}
use Rattle.axis_solve.proofs.augment.one_turn.Goals as goal

pub reach-w-requires-clause-growing : goal.reach-w-requires-clause-growing
reach-w-requires-clause-growing c = search seed_growing

pub push-requires-clause-pushable : goal.push-requires-clause-pushable
push-requires-clause-pushable c = search turn_pushable

pub returns : goal.returns
returns c = search turn_ok
