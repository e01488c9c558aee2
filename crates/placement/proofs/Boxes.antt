-- The macros at their corners: how many, one by its number, and the first of them.
use Prim.Native.Nat.{ℕ, zero, suc, ◌<◌}
use mathlib.Core.Path.{◌≡◌, refl, ap}
use mathlib.Core.List.{List, [], ◌∷◌, zip_with}
use native.Mathlib.Omega.{arith}
use lib.ListN.{length, get_or, take}
use Rattle.model.specs.declared.Mac.{Mac}
use Rattle.model.specs.declared.Spot.{Spot}
use Rattle.model.specs.Meaning.{blank_mac, blank_spot}
use Rattle.geometry.specs.declared.Box.{Box}
use Rattle.geometry.specs.Box.{box_at, blank_box}
use Rattle.placement.specs.Legal.{boxes}

pub boxes_long : (ms : List Mac) (ps : List Spot) → length ps ≡ length ms → length (boxes ms ps) ≡ length ms
unfolding zip_with
boxes_long [] ps e = refl
boxes_long (m ∷ ms) [] e = absurd (omega arith)
boxes_long (m ∷ ms) (p ∷ ps) e = ap {B = ℕ} (λ (n : ℕ). suc n) (boxes_long ms ps (omega arith))

pub boxes_at_law : (ms : List Mac) (ps : List Spot) → length ps ≡ length ms → (k : ℕ) → k < length ms → get_or (boxes ms ps) k blank_box ≡ box_at (get_or ms k blank_mac) (get_or ps k blank_spot)
unfolding zip_with
boxes_at_law [] ps e k l = absurd (omega arith)
boxes_at_law (m ∷ ms) [] e k l = absurd (omega arith)
boxes_at_law (m ∷ ms) (p ∷ ps) e zero l = refl
boxes_at_law (m ∷ ms) (p ∷ ps) e (suc k) l = boxes_at_law ms ps (omega arith) k (omega arith)

pub take_boxes : (n : ℕ) (ms : List Mac) (ps : List Spot) → boxes (take n ms) (take n ps) ≡ take n (boxes ms ps)
unfolding zip_with
take_boxes zero ms ps = refl
take_boxes (suc n) [] ps = refl
take_boxes (suc n) (m ∷ ms) [] = refl
take_boxes (suc n) (m ∷ ms) (p ∷ ps) = ap (λ (t : List Box). box_at m p ∷ t) (take_boxes n ms ps)
