use Rattle.axis_held.proofs.Built.{DiePut}
use Rattle.axis_held.proofs.build.put_sizes.Given as goal

-- the slots of the first i macros are written
abbrev pub invariant-loop-i : goal.invariant-loop-i
invariant-loop-i l = DiePut l.side l.n l.sizes l.fn.ss l.ss l.i
