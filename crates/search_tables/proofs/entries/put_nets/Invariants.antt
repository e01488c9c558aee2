use mathlib.Core.Path.{◌≡◌}
use Rattle.chip_text.specs.Valid.{pins_before}
use Rattle.search_tables.specs.Entries.{NetsIn}
use Rattle.search_tables.proofs.entries.put_nets.Given as goal

abbrev pub invariant-loop-j : goal.invariant-loop-j
invariant-loop-j l = (l.from ≡ pins_before l.j l.nets) × NetsIn l.d l.nets l.pins l.tab l.e l.j
