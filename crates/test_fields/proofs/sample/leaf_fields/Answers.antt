use Rattle.test_fields.proofs.Forms.{leaf_laid}
use Rattle.test_fields.proofs.sample.leaf_fields.Goals as goal

pub returns : goal.returns
returns c = search leaf_laid
