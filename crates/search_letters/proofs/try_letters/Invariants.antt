use Rattle.chip_array.specs.Array.{chip_in}
use Rattle.search_letters.specs.Turns.{Tried}
use Rattle.search_letters.proofs.try_letters.Given as goal

abbrev pub invariant-loop-i : goal.invariant-loop-i
invariant-loop-i l = Tried (chip_in l.cs) l.parts l.p l.tx l.ty l.node l.s l.at l.i l.best l.left
