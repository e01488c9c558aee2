-- The earliest least placement with natural corners of all that pass a test: that of Integers.antt (proofs/Integers.antt, `earliest_integers`).
use Rattle.std.specs.Prelude.{ℕ, ◌≤◌, ◌≡◌, Bool, true, List}
use Rattle.model.specs.declared.Spot.{Spot}
use Rattle.model.specs.Meaning.{Chip}
use Rattle.placement.specs.Length.{wirelength}
use Rattle.placement.specs.Order.{before}

-- ps passes and has length l; every placement that passes has at least that length, and each other one of that length comes after ps
pub record EarliestLeast (c : Chip) (passes : List Spot → Bool) (l : ℕ) (ps : List Spot) : Type 0 where
  pub passed : passes ps ≡ true
  pub long : l ≡ wirelength c ps
  pub least : (qs : List Spot) → passes qs ≡ true → l ≤ wirelength c qs
  pub earliest : (qs : List Spot) → passes qs ≡ true → l ≡ wirelength c qs → (qs ≡ ps → ⊥) → before ps qs ≡ true
