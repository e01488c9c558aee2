use Rattle.test_fields.proofs.Forms.{at_laid}
use Rattle.test_fields.proofs.sample.at_fields.Goals as goal

pub returns : goal.returns
returns c = search at_laid
