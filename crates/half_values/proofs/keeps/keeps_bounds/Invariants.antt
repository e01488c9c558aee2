use Rattle.half_arrays.specs.Arrays.{KeepsTo}
use Rattle.half_values.specs.Values.{macros}
use Rattle.half_values.proofs.keeps.keeps_bounds.Given as goal

abbrev pub invariant-loop-c : goal.invariant-loop-c
invariant-loop-c l = KeepsTo l.arcs (macros l.x) l.c
