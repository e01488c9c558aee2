use Rattle.std.proofs.Common.{rules}
use mathlib.Core.Path.{◌≡◌, ◌∙◌}
use Prim.Native.Nat.{ℕ}
use lib.ListN.{length, length-map}
use Rattle.std.proofs.lemmas.Result.{err_from_is_err_and}
use Rattle.model.specs.declared.Spot.{Spot}
use Rattle.chip_text.proofs.Passing.{Whole, whole}
use Rattle.place_boxes.proofs.Writing.{boxes_refused, boxes_written}
use Rattle.place_boxes.proofs.boxes_text.Goals as goal

pub returns-in_err-found : goal.returns-in_err-found
returns-in_err-found c =
    let q = c.in_err-found.was in
    let p = err_from_is_err_and c.from_residual.result c.from_residual.ensures.1 in
    rw (p.1, p.2) (search boxes_refused)

pub returns : goal.returns
returns c =
    let g = c.type_inv in
    let w : Whole c.in_ok-found.found.chip = search whole in
    let l : length c.in_ok-found.found.best.spots ≡ 8 = search rules in
    boxes_written _ _ _ c.placed.ensures _ c.in_ok-found.was w {A = ℕ} (λ (p : Spot). 0) (length-map {B = ℕ} c.in_ok-found.found.best.spots (λ (p : Spot). 0) ∙ l) _ c.write_boxed.ensures
