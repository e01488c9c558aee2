use Rattle.test_fields.proofs.Forms.{net_laid}
use Rattle.test_fields.proofs.sample.net_fields.Goals as goal

pub returns : goal.returns
returns c = search net_laid
