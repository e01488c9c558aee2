use Rattle.model.specs.Meaning.{chip_of}
use Rattle.search_order.specs.Order.{OrderKept}
use Rattle.search_order.proofs.ordered.Given as goal

abbrev pub invariant-loop-i : goal.invariant-loop-i
invariant-loop-i l = OrderKept (chip_of l.c) l.fn.e l.r

abbrev pub invariant-loop-j : goal.invariant-loop-j
invariant-loop-j l = OrderKept (chip_of l.c) l.fn.e l.r
