-- Corners made from coordinates, and the positions of a fit.
use Prim.Native.Nat.{ℕ, zero, suc, ◌-◌, ◌≤◌}
use mathlib.Core.Path.{◌≡◌, refl, ap, ◌∙◌}
use mathlib.Core.Bool.{true}
use mathlib.Core.List.{List, [], ◌∷◌, ◌++◌}
use native.Mathlib.Omega.{arith}
use lib.ListN.{length, get_or, take, replicate}
use borrow.Author.Tests.{le-leb}
use Rattle.num_text.specs.Number.{all_of}
use Rattle.model.specs.declared.Spot.{Spot}
use Rattle.model.specs.Meaning.{blank_spot}
use Rattle.measure_tests.specs.Positions.{in_range}
use Rattle.model.specs.Corners.{spots_of}

pub past : (f : List ℕ) (s : ℕ) → length f ≤ s → get_or f s 0 ≡ 0
past [] s l = refl
past (x ∷ f) zero l = absurd (omega arith)
past (x ∷ f) (suc s) l = past f s (omega arith)

-- coordinates within 0..1,024 make positions within range
pub spots_in_range : (xs ys : List ℕ) → ((i : ℕ) → get_or xs i 0 ≤ 1024) → ((i : ℕ) → get_or ys i 0 ≤ 1024) → in_range (spots_of xs ys) ≡ true
unfolding spots_of all_of
spots_in_range [] ys h k = refl
spots_in_range (x ∷ xs) [] h k = refl
spots_in_range (x ∷ xs) (y ∷ ys) h k = rw (le-leb 0 x (omega arith), le-leb x 1024 (h 0), le-leb 0 y (omega arith), le-leb y 1024 (k 0), spots_in_range xs ys (λ i. h (suc i)) (λ i. k (suc i)))

zeros : (xs ys : List ℕ) → length xs ≡ length ys → ((i : ℕ) → get_or xs i 0 ≡ 0) → ((i : ℕ) → get_or ys i 0 ≡ 0) → spots_of xs ys ≡ replicate (length xs) blank_spot
unfolding spots_of
zeros [] ys e h k = refl
zeros (x ∷ xs) [] e h k = absurd (omega arith)
zeros (x ∷ xs) (y ∷ ys) e h k =
    let p : x ≡ 0 = h 0 in let q : y ≡ 0 = k 0 in
    rw (p, q, zeros xs ys (omega arith) (λ i. h (suc i)) (λ i. k (suc i)))

-- past n the coordinates are 0, so the first n corners are padded with 0,0
pub spots_padded : (n : ℕ) (xs ys : List ℕ) → n ≤ length xs → length xs ≡ length ys → ((i : ℕ) → n ≤ i → get_or xs i 0 ≡ 0) → ((i : ℕ) → n ≤ i → get_or ys i 0 ≡ 0) → spots_of xs ys ≡ spots_of (take n xs) (take n ys) ++ replicate (length xs - n) blank_spot
unfolding spots_of
spots_padded zero xs ys l e h k = zeros xs ys e (λ i. h i (omega arith)) (λ i. k i (omega arith)) ∙ ap (λ (m : ℕ). replicate m blank_spot) (let q : length xs ≡ length xs - 0 = omega arith in q)
spots_padded (suc n) [] ys l e h k = absurd (omega arith)
spots_padded (suc n) (x ∷ xs) [] l e h k = absurd (omega arith)
spots_padded (suc n) (x ∷ xs) (y ∷ ys) l e h k =
    ap (λ (r : List Spot). record { x = x; y = y } ∷ r) (spots_padded n xs ys (omega arith) (omega arith) (λ i m. h (suc i) (omega arith)) (λ i m. k (suc i) (omega arith)))
    ∙ ap (λ (m : ℕ). record { x = x; y = y } ∷ (spots_of (take n xs) (take n ys) ++ replicate m blank_spot)) (let q : length xs - n ≡ suc (length xs) - suc n = omega arith in q)
