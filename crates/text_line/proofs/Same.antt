-- Two texts are the same bytes where they are so place by place.
use mathlib.Core.Path.{◌≡◌, refl, sym, ap, ◌∙◌}
use mathlib.Core.Bool.{Bool, ◌&&◌}
use mathlib.Core.List.{List, [], ◌∷◌}
use Prim.Native.Nat.{ℕ, ◌≤◌, min}
use native.Mathlib.Decide.{dec_le}
use native.Mathlib.Omega.{arith}
use lib.Dec.{eqb}
use lib.ListN.{length, take}
use lib.Seq.{take_all}
use lib.Pointwise.{pointwise}
use Rattle.text_grammar.specs.Words.{same}

same_points : (s t : List ℕ) → pointwise eqb s t ≡ same s t
unfolding same
same_points [] [] = refl
same_points [] (b ∷ t) = refl
same_points (a ∷ s) [] = refl
same_points (a ∷ s) (b ∷ t) = ap (λ (r : Bool). eqb a b && r) (same_points s t)

pub spelled_so : (bytes s : List ℕ) (size k : ℕ) → length bytes ≡ 5 → k ≡ min size 5 → pointwise eqb (take k bytes) s ≡ same (take size bytes) s
spelled_so bytes s size k l e = same_points (take k bytes) s ∙ ap (λ (t : List ℕ). same t s) (by (dec_le size 5))
  where
    by : Dec (size ≤ 5) → take k bytes ≡ take size bytes
    by (yes h) = ap (λ (n : ℕ). take n bytes) (omega arith)
    by (no h) = take_all k bytes (omega arith) ∙ sym (take_all size bytes (omega arith))
