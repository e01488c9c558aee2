use Rattle.num_text.proofs.Writing.{digit_written, last_written}
use Rattle.num_text.proofs.+put_natural.Goals as goal

pub returns-then-n-lt10 : goal.returns-then-n-lt10
returns-then-n-lt10 t c = search digit_written

pub returns : goal.returns
returns t c = search last_written
