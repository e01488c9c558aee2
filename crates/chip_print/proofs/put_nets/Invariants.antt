use Rattle.chip_print.proofs.Nets.{pins_to, net_lines}
use mathlib.Core.Path.{◌≡◌}
use Prim.Native.Nat.{◌-◌, ◌≤◌}
use Rattle.num_text.specs.Held.{Wrote}
use Rattle.chip_print.proofs.put_nets.Given as goal

abbrev pub invariant-loop-j : goal.invariant-loop-j
invariant-loop-j l = (l.q ≡ pins_to l.c l.j) × Wrote l.initial.out l.out (net_lines l.c l.j) l.at l.a
