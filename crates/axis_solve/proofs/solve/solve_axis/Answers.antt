use Rattle.axis_solve.proofs.Settling.{solved, solve_growing}
use Rattle.axis_solve.proofs.solve.solve_axis.Goals as goal

pub settle-requires-clause-growing : goal.settle-requires-clause-growing
settle-requires-clause-growing c = search solve_growing

pub returns : goal.returns
returns c = search solved
