use Rattle.search_close.proofs.Stepping.{step_closed, step_found, step_open}
use Rattle.search_close.proofs.next_step.Goals as goal

pub returns-then-not-replaces_best : goal.returns-then-not-replaces_best
returns-then-not-replaces_best c = search step_closed

pub returns-then-pair-p : goal.returns-then-pair-p
returns-then-pair-p c = search step_found

pub returns-else-pair-p : goal.returns-else-pair-p
returns-else-pair-p c = search step_open
