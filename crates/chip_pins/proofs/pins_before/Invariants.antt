use mathlib.Core.Path.{◌≡◌}
use Prim.Native.Nat.{min}
use Rattle.chip_text.specs.Valid.{pins_before}
use Rattle.chip_pins.proofs.pins_before.Given as goal

abbrev pub invariant-loop-k : goal.invariant-loop-k
invariant-loop-k l = l.q ≡ min 129 (pins_before l.k l.nets)
