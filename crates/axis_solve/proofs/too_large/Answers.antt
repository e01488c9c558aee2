use Rattle.axis_held.proofs.HeldAxes.{shaped}
use Rattle.axis_solve.proofs.Large.{large_chain}
use Rattle.axis_solve.proofs.too_large.Goals as goal

pub returns : goal.returns
returns c = rw c.unsolvable.ensures (search (shaped, large_chain))
