-- Corners from their coordinates: how many, each of them, the first of them, and their coordinates again.
use Prim.Native.Nat.{ℕ, zero, suc, ◌<◌}
use mathlib.Core.Path.{◌≡◌, refl, ap}
use mathlib.Core.List.{List, [], ◌∷◌, map}
use native.Mathlib.Omega.{arith}
use lib.ListN.{length, get_or, take}
use Rattle.model.specs.declared.Spot.{Spot}
use Rattle.model.specs.Meaning.{blank_spot}
use Rattle.model.specs.Corners.{spots_of}

pub spots_length : (xs ys : List ℕ) → length xs ≡ length ys → length (spots_of xs ys) ≡ length xs
unfolding spots_of
spots_length [] ys e = refl
spots_length (x ∷ xs) [] e = absurd (omega arith)
spots_length (x ∷ xs) (y ∷ ys) e = let h = spots_length xs ys (omega arith) in omega arith

pub spots_each : (xs ys : List ℕ) (j : ℕ) → j < length xs → j < length ys → get_or (spots_of xs ys) j blank_spot ≡ record { x = get_or xs j 0; y = get_or ys j 0 }
unfolding spots_of
spots_each [] ys j g h = absurd (omega arith)
spots_each (x ∷ xs) [] j g h = absurd (omega arith)
spots_each (x ∷ xs) (y ∷ ys) zero g h = refl
spots_each (x ∷ xs) (y ∷ ys) (suc j) g h = spots_each xs ys j (omega arith) (omega arith)

pub take_spots : (n : ℕ) (xs ys : List ℕ) → take n (spots_of xs ys) ≡ spots_of (take n xs) (take n ys)
unfolding spots_of
take_spots zero xs ys = refl
take_spots (suc n) [] ys = refl
take_spots (suc n) (x ∷ xs) [] = refl
take_spots (suc n) (x ∷ xs) (y ∷ ys) = ap (λ (r : List Spot). record { x = x; y = y } ∷ r) (take_spots n xs ys)

pub spots_x : (xs ys : List ℕ) → length xs ≡ length ys → map (λ (p : Spot). p.x) (spots_of xs ys) ≡ xs
unfolding spots_of
spots_x [] ys e = refl
spots_x (x ∷ xs) [] e = absurd (omega arith)
spots_x (x ∷ xs) (y ∷ ys) e = ap (λ (s : List ℕ). x ∷ s) (spots_x xs ys (omega arith))

pub spots_y : (xs ys : List ℕ) → length xs ≡ length ys → map (λ (p : Spot). p.y) (spots_of xs ys) ≡ ys
unfolding spots_of
spots_y [] [] e = refl
spots_y [] (y ∷ ys) e = absurd (omega arith)
spots_y (x ∷ xs) [] e = absurd (omega arith)
spots_y (x ∷ xs) (y ∷ ys) e = ap (λ (s : List ℕ). y ∷ s) (spots_y xs ys (omega arith))
