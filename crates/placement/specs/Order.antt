-- Order among placements with natural corners: that of Integers.antt (proofs/Integers.antt, `before_same`).
use Rattle.std.specs.Prelude.{ℕ, List, [], ◌∷◌, Bool, false, ◌&&◌, ◌||◌, ltb, eqb}
use Rattle.model.specs.declared.Spot.{Spot}

-- x1, y1, x2, y2 and so on
unfoldable pub keys : List Spot → List ℕ
keys [] = []
keys (p ∷ ps) = p.x ∷ (p.y ∷ keys ps)

unfoldable pub first_smaller : List ℕ → List ℕ → Bool
first_smaller [] t = false
first_smaller (a ∷ s) [] = false
first_smaller (a ∷ s) (b ∷ t) = ltb a b || (eqb a b && first_smaller s t)

-- ps comes before qs
abbrev pub before : List Spot → List Spot → Bool
before ps qs = first_smaller (keys ps) (keys qs)
