use Rattle.beside_print.proofs.Printing.{passed_printed, refusal_printed}
use Rattle.beside_print.proofs.print_beside.Goals as goal

pub returns-in-Ok : goal.returns-in-Ok
returns-in-Ok c = search passed_printed

pub returns-in-Err : goal.returns-in-Err
returns-in-Err c = search refusal_printed
