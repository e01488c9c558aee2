use mathlib.Core.Path.{◌≡◌}
use lib.ListN.{length}
use Rattle.axis_graph.specs.Build.{SpansTo}
use Rattle.axis_held.proofs.build.spans.Given as goal

-- the first j nets are written
abbrev pub invariant-loop-j : goal.invariant-loop-j
invariant-loop-j l = (length l.r ≡ 32) × SpansTo l.n l.nets l.j l.r
