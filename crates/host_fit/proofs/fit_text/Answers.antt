use mathlib.Core.Path.{refl}
use Rattle.std.specs.Prelude.{Ok}
use Rattle.chip_text.proofs.Passing.{Whole, whole}
use Rattle.chip_read.proofs.Passing.{read_passed}
use Rattle.host_fit.proofs.fit_text.Goals as goal

pub fit_chip-requires : goal.fit_chip-requires
fit_chip-requires c =
    let g = c.type_inv in
    let w : Whole c.in-Ok.c = search whole in
    read_passed _ (Ok c.in-Ok.c) c.in-Ok.ensures.result_value c.in-Ok.c w refl
