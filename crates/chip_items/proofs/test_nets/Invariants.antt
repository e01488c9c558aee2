use Rattle.chip_items.proofs.NetTests.{NetsLeft}
use Prim.Native.Nat.{◌≤◌}
use Rattle.chip_items.proofs.test_nets.Given as goal

abbrev pub invariant-loop-j : goal.invariant-loop-j
invariant-loop-j l = (l.j ≤ 32) × (l.q ≤ 128) × NetsLeft l.c l.first l.c.t l.q l.j
