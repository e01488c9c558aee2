use mathlib.Core.Path.{refl}
use mathlib.Core.List.{flat_map}
use Rattle.chip_read.proofs.blank_chip.Goals as goal

pub returns : goal.returns
unfolding flat_map
returns c = refl
