-- A box against the boxes of a list, one after the other.
use mathlib.Core.Path.{◌≡◌, refl, sym, ap, ◌∙◌}
use mathlib.Core.Bool.{Bool, true, false, not, ◌&&◌}
use mathlib.Core.List.{List, [], ◌∷◌, map}
use Prim.Native.Nat.{ℕ, zero, suc, ◌+◌, ◌≤◌, ◌<◌}
use native.Mathlib.Numerals.{add-one}
use native.Mathlib.Omega.{arith}
use lib.ListN.{length, get_or, take, drop, length-take, drop_of_length-le}
use lib.Seq.{drop-cons, get_or-take}
use Rattle.model.specs.declared.Fix.{Fix}
use Rattle.geometry.specs.declared.Box.{Box}
use Rattle.geometry.specs.Box.{box_of, blank_box, apart, clear_of}
use Rattle.geometry.proofs.Tests.{and_fails, and_rest}

-- ---- fixes

pub take_boxes_of : (k : ℕ) (fs : List Fix) → take k (map box_of fs) ≡ map box_of (take k fs)
take_boxes_of zero fs = refl
take_boxes_of (suc k) [] = refl
take_boxes_of (suc k) (f ∷ fs) = ap (λ (s : List Box). box_of f ∷ s) (take_boxes_of k fs)
