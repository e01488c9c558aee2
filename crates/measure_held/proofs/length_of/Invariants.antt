use Prim.Native.Nat.{◌-◌, ◌≤◌}
use Rattle.measure_held.proofs.Lengths.{Before, Summed}
use Rattle.measure_held.proofs.length_of.Given as goal

abbrev pub invariant-loop-j : goal.invariant-loop-j
invariant-loop-j l = (l.j ≤ l.c.t) × Before l.nets l.from l.j × Summed l.spots l.nets l.pins l.total l.j
