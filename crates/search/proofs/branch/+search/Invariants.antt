-- Each call decides one pair more; at each turn of the loop one child fewer is left.
use Rattle.chip_array.specs.Array.{chip_in}
use Rattle.search_branches.specs.Branch.{undecided}
use Rattle.search_node.specs.Letters.{letters_in}
use Rattle.search_left.specs.Left.{child_list}
use Rattle.search_left.proofs.FourChildren.{held_in}
use Rattle.search_letters.specs.Turns.{LeftOk}
use Rattle.search.specs.Search.{Grown}
use Rattle.search.proofs.branch.+search.Given as goal

abbrev pub decreases-search : goal.decreases-search
decreases-search l = undecided (letters_in l.node.letters l.p)

abbrev pub invariant-loop-i : goal.invariant-loop-i
invariant-loop-i l = LeftOk (chip_in l.cs) l.p l.node l.pair.s 4 l.left l.b × Grown (chip_in l.cs) l.initial.b l.b

abbrev pub decreases-loop-i : goal.decreases-loop-i
decreases-loop-i l = held_in (child_list l.left)
