use borrow.Author.Rules.{rules}
use Rattle.axis_solve.proofs.Admissions.{admit_growing, admit_pushable, admit_fits, admit_refuted}
use Rattle.axis_solve.proofs.admit.admit_slot.Goals as goal

pub approach-w-requires-clause-growing : goal.approach-w-requires-clause-growing
approach-w-requires-clause-growing c = search admit_growing

pub push-h-requires-clause-pushable : goal.push-h-requires-clause-pushable
push-h-requires-clause-pushable c = search admit_pushable

pub returns-then-is_kept : goal.returns-then-is_kept
returns-then-is_kept c =
    admit_fits _ _ _ _ c.requires.graph_within c.requires.feasible c.requires.fresh c.requires.net _ c.seed.ensures _ c.approach-w.ensures _ c.is_kept.ensures c.if-is_kept.true _ c.rebase.ensures

pub returns-else-is_kept : goal.returns-else-is_kept
returns-else-is_kept c =
    admit_refuted _ _ _ _ c.requires.graph_within c.requires.feasible c.requires.fresh c.requires.net _ c.seed.ensures _ c.approach-w.ensures _ c.is_kept.ensures c.if-is_kept.false _ (search rules) c.push-h.ensures
