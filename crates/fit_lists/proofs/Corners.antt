-- Corners made from coordinates, in the form of the needs of `spots_at`.
use Prim.Native.Nat.{ℕ, ◌≤◌, ◌<◌}
use mathlib.Core.Path.{◌≡◌, sym, ◌∙◌}
use mathlib.Core.List.{List}
use native.Mathlib.Omega.{arith}
use lib.ListN.{length, get_or}
use lib.Seq.{ext_get_or}
use Rattle.model.specs.declared.Spot.{Spot}
use Rattle.model.specs.Meaning.{blank_spot}
use Rattle.model.specs.Corners.{spots_of}
use Rattle.model.proofs.Corners.{spots_length, spots_each}

pub record SpotsTo (xs ys : List ℕ) (spots : List Spot) (i : ℕ) : Type 0 where
  pub long : length spots ≡ 8
  pub at : (j : ℕ) → j < i → get_or spots j blank_spot ≡ record { x = get_or xs j 0; y = get_or ys j 0 }

module _ (xs ys : List ℕ) (spots : List Spot) (i : ℕ) (inv : SpotsTo xs ys spots i) where
  pub spots_all : 8 ≤ i → length xs ≡ 8 → length ys ≡ 8 → spots ≡ spots_of xs ys
  spots_all l ex ey = ext_get_or blank_spot spots (spots_of xs ys) (inv.long ∙ sym (spots_length xs ys (ex ∙ sym ey) ∙ ex)) (λ j h. inv.at j (let e = inv.long in omega arith) ∙ sym (spots_each xs ys j (let e = inv.long in omega arith) (let e = inv.long in omega arith)))
