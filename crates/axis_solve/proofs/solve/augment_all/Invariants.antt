use Rattle.axis_solve.specs.Flows.{Flows}
use Rattle.axis_solve.proofs.solve.augment_all.Given as goal

-- the first nets flow
abbrev pub invariant-loop-p : goal.invariant-loop-p
invariant-loop-p l = Flows l.g l.fn.nets l.p-index l.x l.f
