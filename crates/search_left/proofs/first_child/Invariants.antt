use Rattle.search_left.specs.Left.{child_list}
use Rattle.search_left.proofs.FourChildren.{Sought}
use Rattle.search_left.proofs.first_child.Given as goal

abbrev pub invariant-loop-i : goal.invariant-loop-i
invariant-loop-i l = Sought (child_list l.left) l.best l.at l.i
