use Rattle.text_line.proofs.AllFields.{left_over, none_left}
use Rattle.text_line.proofs.end_fields.Goals as goal

pub returns-then-no-ne0 : goal.returns-then-no-ne0
returns-then-no-ne0 c = search left_over

pub returns : goal.returns
returns c = search none_left
