use Rattle.axis_amounts.proofs.Tests.{IdleTo}
use Rattle.axis_amounts.proofs.idle_slots.Given as goal

-- of the first i slots those that ask nothing carry nothing
abbrev pub invariant-loop-i : goal.invariant-loop-i
invariant-loop-i l = IdleTo l.fn.g.slots l.fn.g.m l.f l.i
