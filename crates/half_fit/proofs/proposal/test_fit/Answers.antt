use Rattle.half_fit.proofs.Fitting.{shows_fit}
use Rattle.half_fit.proofs.proposal.test_fit.Goals as goal

pub returns-then-l-w : goal.returns-then-l-w
returns-then-l-w c = shows_fit _ _ _ _ _ c.coordinates_of-z.ensures _ _ _ _ _ _ c.keeps_bounds.ensures c.if-keeps_bounds.true c.reasons.ensures c.if-reasons.true c.half_length-l.ensures c.worth_of-w.ensures.worth_sums c.worth_of-w.ensures.says c.if-w.true c.if-w-2.true c.if-l-w.true
