use Rattle.std.proofs.Common.{rules}
use mathlib.Core.Path.{refl}
use Rattle.std.proofs.lemmas.Result.{err_from_is_err_and}
use Rattle.std.specs.Prelude.{Ok}
use Rattle.chip_text.proofs.Passing.{Whole, whole}
use Rattle.chip_read.proofs.Passing.{read_passed}
use Rattle.search.proofs.Placing.{found_refused, found_placed}
use Rattle.search.proofs.service.placed.Goals as goal

pub chip_record-requires : goal.chip_record-requires
chip_record-requires c =
    let g = c.type_inv in
    let w : Whole c.in_ok-chip.chip = search whole in
    read_passed _ (Ok c.in_ok-chip.chip) c.in_ok-chip.ensures.result_value c.in_ok-chip.chip w refl

pub returns-in_err-chip : goal.returns-in_err-chip
returns-in_err-chip c =
    let q = c.in_err-chip.was in
    let p = err_from_is_err_and c.from_residual.result c.from_residual.ensures.1 in
    rw (p.1, p.2) (search found_refused)

pub returns : goal.returns
returns c = let q = c.in_ok-chip.was in search found_placed
