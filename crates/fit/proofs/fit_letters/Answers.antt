use Rattle.fit.proofs.Answering.{entry_ready, ready_answer, ready_list, refused_answer, refused_list}
use Rattle.fit.proofs.fit_letters.Goals as goal

pub fit_ready-requires : goal.fit_ready-requires
fit_ready-requires c = search entry_ready

pub returns-in-Err : goal.returns-in-Err
returns-in-Err c = record { value = search refused_answer; filled = search refused_list }

pub returns-in-Ok : goal.returns-in-Ok
returns-in-Ok c = record { value = search ready_answer; filled = search ready_list }
