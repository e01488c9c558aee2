-- The test between fixes is that of their boxes.
use Prim.Native.Nat.{ℕ}
use mathlib.Core.Path.{◌≡◌, ap, ◌∙◌}
use mathlib.Core.Bool.{Bool}
use mathlib.Core.List.{List, map}
use lib.ListN.{take}
use Rattle.model.specs.declared.Fix.{Fix}
use Rattle.geometry.specs.declared.Box.{Box}
use Rattle.geometry.specs.Box.{box_of, clear_of}
use Rattle.geometry.proofs.Clear.{take_boxes_of}

module _ (f : Fix) (b : Box) (eb : b ≡ box_of f) (r : Bool) where
  pub box_clear : (fs : List Fix) (bs : List Box) (k : ℕ) → bs ≡ map box_of fs → r ≡ clear_of 0 b (take k bs) → r ≡ clear_of 0 (box_of f) (map box_of (take k fs))
  box_clear fs bs k es e = e ∙ ap (λ (a : Box). clear_of 0 a (take k bs)) eb ∙ ap (clear_of 0 (box_of f)) (ap (take k) es ∙ take_boxes_of k fs)
