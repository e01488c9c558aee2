use mathlib.Core.List.{map}
use Rattle.fit_slots.specs.Slots.{mac_side}
use Rattle.search_tables.specs.Dots.{Dotted}
use Rattle.search_tables.proofs.dots.dot_arcs.Given as goal

abbrev pub invariant-loop-c : goal.invariant-loop-c
invariant-loop-c l = Dotted l.side l.n (map (mac_side l.d) l.macs) l.arcs l.c
