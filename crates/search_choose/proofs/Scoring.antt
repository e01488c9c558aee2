-- The score of a pair: how large it may become, and that it is above 0 where the two overlap.
use Prim.Native.Nat.{ℕ, ◌*◌, ◌≤◌, min, max}
use mathlib.Core.Path.{◌≡◌}
use native.Mathlib.Nat.{mul-le-mul}
use native.Mathlib.Omega.{arith}

-- ---- the distances

module _ (l r d u x y f m far g : ℕ) (hl : l ≤ 2048) (hd : d ≤ 2048) (ex : x ≡ min l r) (ey : y ≡ min d u) (ef : f ≡ min x y) (em : m ≡ max x y) (eg : g ≡ min m far) where
  pub least_small : f * g ≤ 4194304
  least_small = let p : f ≤ 2048 = omega arith in let q : g ≤ 2048 = omega arith in mul-le-mul p q
