use mathlib.Core.Path.{◌≡◌}
use Rattle.axis_bounds.specs.Held.{pins_before}
use Rattle.axis_held.proofs.build.count_pins.Given as goal

-- c: the pins of the first nets
abbrev pub invariant-loop-k : goal.invariant-loop-k
invariant-loop-k l = l.c ≡ pins_before l.k-index l.fn.nets
