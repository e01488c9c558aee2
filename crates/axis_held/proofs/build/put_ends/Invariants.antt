use Rattle.axis_held.proofs.Built.{EndsPut}
use Rattle.axis_held.proofs.build.put_ends.Given as goal

-- the end slots of the first j nets are written
abbrev pub invariant-loop-j : goal.invariant-loop-j
invariant-loop-j l = EndsPut l.h l.t l.at l.fn.ss l.ss l.j
