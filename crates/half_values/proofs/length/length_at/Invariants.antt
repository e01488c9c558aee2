use Rattle.num_laws.specs.Sum.{sum}
use mathlib.Core.Path.{◌≡◌}
use Rattle.half_values.specs.Values.{macros}
use Rattle.half_values.proofs.Lengths.{net_term}
use Rattle.half_values.proofs.length.length_at.Given as goal

abbrev pub invariant-loop-j : goal.invariant-loop-j
invariant-loop-j l = l.l ≡ sum (net_term l.tab (macros l.x)) l.j
