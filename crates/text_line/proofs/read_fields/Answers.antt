use Rattle.text_line.proofs.Laid.{laid}
use Rattle.text_line.proofs.AllFields.{no_layout}
use Rattle.text_line.proofs.read_fields.Goals as goal

pub returns-then-not-is_layout : goal.returns-then-not-is_layout
returns-then-not-is_layout c = search no_layout

pub read_laid-requires : goal.read_laid-requires
read_laid-requires c = search laid
