use mathlib.Core.Path.{◌≡◌}
use mathlib.Core.List.{map}
use lib.ListN.{take}
use Rattle.fit_lists.specs.Lists.{low16}
use lib.Seq.{sets}
use Rattle.fit_lists.proofs.put_amounts.Given as goal

abbrev pub invariant-loop-i : goal.invariant-loop-i
invariant-loop-i l = l.flow ≡ sets l.initial.flow l.at (take l.i (map low16 l.amounts))
