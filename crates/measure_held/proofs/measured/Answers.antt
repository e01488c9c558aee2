use Rattle.measure_held.proofs.Answers.{its_measure}
use Rattle.measure_held.proofs.measured.Goals as goal

pub returns : goal.returns
returns c = search its_measure
