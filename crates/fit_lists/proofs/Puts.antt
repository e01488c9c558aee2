-- Amounts put into the lent list, in the form of the needs.
use Prim.Native.Nat.{ℕ, zero, suc, ◌+◌, ◌%◌, ◌≤◌, ◌<◌}
use mathlib.Core.Path.{◌≡◌, refl, ap, ◌∙◌}
use mathlib.Core.List.{List, [], ◌∷◌, map}
use native.Mathlib.Omega.{arith}
use lib.ListN.{length, get_or, take, set, length-map}
use lib.Seq.{sets}
use Rattle.num_laws.proofs.Stores.{sets_more}
use Rattle.fit_lists.specs.Lists.{low16}

low_at : (f : List ℕ) (i : ℕ) → get_or (map low16 f) i 0 ≡ low16 (get_or f i 0)
low_at [] i = refl
low_at (x ∷ f) zero = refl
low_at (x ∷ f) (suc i) = low_at f i

module _ (d s now : List ℕ) (at i m : ℕ) (inv : now ≡ sets d at (take i (map low16 s))) where
  pub puts_more : i < m → m ≤ 456 → length s ≡ 456 → set now (at + i) (get_or s i 0 % 65536) ≡ sets d at (take (i + 1) (map low16 s))
  puts_more l h e =
      ap (λ (u : List ℕ). set u (at + i) (get_or s i 0 % 65536)) inv
      ∙ rw (← low_at s i) (sets_more d (map low16 s) at i 0 (let q = length-map s low16 in omega arith))
