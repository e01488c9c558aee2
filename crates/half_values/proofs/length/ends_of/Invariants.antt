use Rattle.half_values.specs.Values.{NetEnds, macros}
use Rattle.half_values.proofs.length.ends_of.Given as goal

abbrev pub invariant-loop-e : goal.invariant-loop-e
invariant-loop-e l = NetEnds l.tab (macros l.x) l.e l.top l.bottom
