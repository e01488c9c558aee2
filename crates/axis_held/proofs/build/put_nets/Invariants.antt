use Prim.Native.Nat.{◌≤◌, ◌+◌, ◌*◌}
use Rattle.axis_held.proofs.Built.{PinsPut, NetsPut}
use Rattle.axis_held.proofs.build.put_nets.Given as goal

-- the slots of the first i pins of a net are written
abbrev pub invariant-loop-i : goal.invariant-loop-i
invariant-loop-i l = (l.from + l.c ≤ 128) × (l.start + 2 * l.c ≤ 456) × PinsPut l.base l.hi l.from l.c l.start l.pins l.initial.ss l.ss l.i

-- the slots of the first j nets are written; these have the first `from` pins
abbrev pub invariant-loop-j : goal.invariant-loop-j
invariant-loop-j l = NetsPut l.base l.h l.t l.at l.nets l.pins l.fn.ss l.ss l.from l.j
