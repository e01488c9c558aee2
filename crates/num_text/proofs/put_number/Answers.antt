-- A number below the shift has a minus sign.
use Rattle.num_text.proofs.Writing.{below_written, above_written}
use Rattle.num_text.proofs.put_number.Goals as goal

pub returns-then-n-shift : goal.returns-then-n-shift
returns-then-n-shift c = search below_written

pub returns : goal.returns
returns c = search above_written
