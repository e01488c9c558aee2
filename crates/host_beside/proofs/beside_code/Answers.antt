use Rattle.host_beside.proofs.Coding.{passed_coded, refusal_coded}
use Rattle.host_beside.proofs.beside_code.Goals as goal

pub returns-in-Ok : goal.returns-in-Ok
returns-in-Ok c = search passed_coded

pub returns-in-Err : goal.returns-in-Err
returns-in-Err c = search refusal_coded
