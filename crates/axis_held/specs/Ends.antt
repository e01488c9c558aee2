-- The end slots of the nets, which limit how far hi and lo lie from the die corner.
use Rattle.std.specs.Prelude.{ℕ, zero, suc, List, [], ◌∷◌}
use Rattle.axis_bounds.specs.declared.Slot.{Slot}
use Rattle.axis_bounds.specs.Listed.{slot}
use Rattle.axis_bounds.specs.Graph.{far}

-- the end slots of t nets, the first of which has node h as its hi
unfoldable pub ends_of : ℕ → ℕ → List Slot
ends_of h zero = []
ends_of h (suc t) = slot h 0 0 far ∷ slot 0 (suc h) 0 far ∷ ends_of (suc (suc h)) t
