use Rattle.measure_held.proofs.Answers.{length_measured, length_refused}
use Rattle.measure_held.proofs.length_in.Goals as goal

pub returns-in-Ok : goal.returns-in-Ok
returns-in-Ok c = search length_measured

pub returns-in-Err : goal.returns-in-Err
returns-in-Err c = search length_refused
