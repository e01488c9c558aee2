-- Of two boxes it does not matter which is held against the other.
use Prim.Native.Nat.{ℕ}
use mathlib.Core.Path.{◌≡◌, refl}
use mathlib.Core.Bool.{Bool, true, false, ◌||◌}
use Rattle.geometry.specs.declared.Box.{Box}
use Rattle.geometry.specs.Box.{left_of, below, apart}

swap_or : (p q r s : Bool) → (p || (q || (r || s))) ≡ (q || (p || (s || r)))
swap_or true true r s = refl
swap_or true false r s = refl
swap_or false true r s = refl
swap_or false false true true = refl
swap_or false false true false = refl
swap_or false false false true = refl
swap_or false false false false = refl

pub apart_swap : (g : ℕ) (a b : Box) → apart g a b ≡ apart g b a
apart_swap g a b = swap_or (left_of g a b) (left_of g b a) (below g a b) (below g b a)
