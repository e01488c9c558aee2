-- The greatest and the least of a list of numbers, and its spread: the greatest less the least.
use Rattle.std.specs.Prelude.{ℕ, ◌-◌, min, max, List, [], ◌∷◌}

-- the greatest of a and s
unfoldable pub most : ℕ → List ℕ → ℕ
most a [] = a
most a (b ∷ s) = most (max a b) s

-- the least of a and s
unfoldable pub fewest : ℕ → List ℕ → ℕ
fewest a [] = a
fewest a (b ∷ s) = fewest (min a b) s

-- the greatest and the least of a list; of none, 0
unfoldable pub top : List ℕ → ℕ
top [] = 0
top (a ∷ s) = most a s

unfoldable pub bottom : List ℕ → ℕ
bottom [] = 0
bottom (a ∷ s) = fewest a s

-- no number, no spread
unfoldable pub spread : List ℕ → ℕ
spread [] = 0
spread (a ∷ s) = most a s - fewest a s
