use Rattle.half_reason.proofs.Reasoning.{reasons_none, reasons_next, reasons_all}
use Rattle.half_arrays.proofs.Answers.{says_no}
use Rattle.half_reason.proofs.reasons.Goals as goal

pub loop-k-init : goal.loop-k-init
loop-k-init c = search reasons_none

pub returns-then-not-has_reason : goal.returns-then-not-has_reason
returns-then-not-has_reason c = search says_no

pub loop-k-preserved : goal.loop-k-preserved
loop-k-preserved c = search reasons_next

pub returns : goal.returns
returns c = search reasons_all
