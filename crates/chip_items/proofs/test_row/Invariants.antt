use Rattle.chip_items.proofs.Tests.{LeftFrom}
use Prim.Native.Nat.{◌+◌, ◌-◌, ◌≤◌}
use Rattle.chip_faults.specs.Faults.{row_fault}
use Rattle.chip_items.proofs.test_row.Given as goal

abbrev pub invariant-loop-i : goal.invariant-loop-i
invariant-loop-i l = (l.q + l.i ≤ 128) × LeftFrom (λ x. row_fault l.c l.row (l.q + x)) l.line l.count l.i
