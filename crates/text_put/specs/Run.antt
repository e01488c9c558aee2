-- Things by their numbers.
use Rattle.std.specs.Prelude.{ℕ, zero, suc, List, [], ◌∷◌}

-- n things from number q on
unfoldable pub run : {A : Type 0} → (ℕ → A) → ℕ → ℕ → List A
run f q zero = []
run f q (suc n) = f q ∷ run f (suc q) n
