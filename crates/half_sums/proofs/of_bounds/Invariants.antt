use Rattle.half_sums.specs.Sums.{FlowSums}
use Rattle.half_sums.proofs.of_bounds.Given as goal

abbrev pub invariant-loop-c : goal.invariant-loop-c
invariant-loop-c l = FlowSums l.arcs l.st l.o l.c l.into l.out l.all l.by
