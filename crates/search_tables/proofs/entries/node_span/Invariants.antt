use Rattle.search_tables.specs.Entries.{pins_on, Spans}
use Rattle.search_tables.proofs.entries.node_span.Given as goal

abbrev pub invariant-loop-i : goal.invariant-loop-i
invariant-loop-i l = Spans (pins_on l.d l.pins) l.from l.i l.node l.s
