use Prim.Native.Nat.{◌-◌, ◌≤◌}
use lib.ListN.{take}
use Rattle.legal.proofs.InTurn.{Left}
use Rattle.legal.proofs.legal_first.Given as goal

abbrev pub invariant-loop-i : goal.invariant-loop-i
invariant-loop-i l = Left 0 l.die (take l.k l.fs) l.bs l.n l.i
