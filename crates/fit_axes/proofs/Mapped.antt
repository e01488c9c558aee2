-- An array's map, from what it says of each place.
use Prim.Native.Nat.{ℕ, suc, ◌<◌}
use mathlib.Core.Path.{◌≡◌, refl, ap}
use mathlib.Core.List.{List, [], ◌∷◌, map}
use native.Mathlib.Omega.{arith}
use lib.ListN.{length, get_or}

module _ {A B : Type 0} (f : A → B) (a : A) (b : B) where
  pub mapped : (xs : List A) (ys : List B) → length ys ≡ length xs → ((i : ℕ) → i < length xs → get_or ys i b ≡ f (get_or xs i a)) → ys ≡ map f xs
  mapped [] [] l e = refl
  mapped [] (y ∷ ys) l e = absurd (omega arith)
  mapped (x ∷ xs) [] l e = absurd (omega arith)
  mapped (x ∷ xs) (y ∷ ys) l e = rw (e 0 (omega arith)) (ap (λ (t : List B). f x ∷ t) (mapped xs ys (omega arith) (λ i h. e (suc i) (omega arith))))
