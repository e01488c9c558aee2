-- The numbers of corners: how many there are, and those of one corner more.
use Prim.Native.Nat.{ℕ, ◌+◌}
use mathlib.Core.Path.{◌≡◌, refl, ap}
use mathlib.Core.List.{List, [], ◌∷◌, ◌++◌}
use Rattle.model.specs.declared.Spot.{Spot}
use Rattle.placement.specs.Order.{keys}

keys_append : (ps qs : List Spot) → keys (ps ++ qs) ≡ keys ps ++ keys qs
unfolding keys
keys_append [] qs = refl
keys_append (p ∷ ps) qs = ap (λ (t : List ℕ). p.x ∷ p.y ∷ t) (keys_append ps qs)

-- one corner more
pub keys_snoc : (ps : List Spot) (p : Spot) → keys (ps ++ (p ∷ [])) ≡ keys ps ++ (p.x ∷ p.y ∷ [])
unfolding keys
keys_snoc ps p = keys_append ps (p ∷ [])
