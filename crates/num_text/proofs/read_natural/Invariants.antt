-- A text that has no sign: the loop keeps the answer for the digits that are left.
use mathlib.Core.Path.{◌≡◌}
use Prim.Native.Nat.{◌≤◌}
use lib.ListN.{drop}
use Rattle.num_text.specs.Held.{cap}
use Rattle.num_text.specs.Steps.{held_natural}
use Rattle.num_text.proofs.Reading.{held_from}
use Rattle.num_text.proofs.read_natural.Given as goal

abbrev pub invariant-loop-b : goal.invariant-loop-b
invariant-loop-b l = (l.v ≤ cap) × (held_natural l.s ≡ held_from (drop l.b-index l.s) l.v)
