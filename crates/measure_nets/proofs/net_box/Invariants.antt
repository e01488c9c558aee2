use Prim.Native.Nat.{◌-◌, ◌≤◌}
use Rattle.measure_nets.proofs.Around.{Around}
use Rattle.measure_nets.proofs.net_box.Given as goal

abbrev pub invariant-loop-i : goal.invariant-loop-i
invariant-loop-i l = Around l.spots l.pins l.from l.to l.i l.b
