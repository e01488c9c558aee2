use Prim.Native.Nat.{◌+◌}
use Rattle.axis_solve.specs.Start.{Around}
use Rattle.axis_solve.proofs.start.net_ends.Given as goal

-- lo and hi enclose the first pins
abbrev pub invariant-loop-q : goal.invariant-loop-q
invariant-loop-q l = Around l.x l.fn.pins l.from (l.from + l.q-index) l.lo l.hi
