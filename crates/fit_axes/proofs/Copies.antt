-- The first items of a mapped list, and those after them.
use Prim.Native.Nat.{ℕ, zero, suc}
use mathlib.Core.Path.{◌≡◌, refl, ap}
use mathlib.Core.List.{List, [], ◌∷◌, map}
use lib.ListN.{take, drop}

module _ {A B : Type 0} (f : A → B) where
  pub map_take : (n : ℕ) (s : List A) → take n (map f s) ≡ map f (take n s)
  map_take zero s = refl
  map_take (suc n) [] = refl
  map_take (suc n) (a ∷ s) = ap (λ (t : List B). f a ∷ t) (map_take n s)

  pub map_drop : (n : ℕ) (s : List A) → drop n (map f s) ≡ map f (drop n s)
  map_drop zero s = refl
  map_drop (suc n) [] = refl
  map_drop (suc n) (a ∷ s) = map_drop n s
