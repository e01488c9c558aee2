use Rattle.chip_array.proofs.Read.{chip_read_law}
use Rattle.chip_array.proofs.chip_in.Goals as goal

pub returns : goal.returns
returns c = search chip_read_law
