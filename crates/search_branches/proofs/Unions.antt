-- The earliest least placement of those that pass one of two tests is the better of the two tests' results.
-- A result answers a test when nothing passes, or when its placement passes and no placement that passes replaces it. There is one such result: `only-answer`.
use Prim.Native.Nat.{ℕ}
use Prim.{tt}
use mathlib.Core.Path.{◌≡◌, refl, sym, ap, ◌∙◌}
use mathlib.Core.Bool.{Bool, true, false}
use mathlib.Core.List.{List, Memᴰ}
use mathlib.Core.Logic.{inl, inr}
use native.Mathlib.Omega.{arith}
use lib.ListN.{length}
use Rattle.model.specs.declared.Spot.{Spot}
use Rattle.model.specs.Meaning.{Chip}
use Rattle.placement.specs.Integers.{Corner, integers}
use Rattle.placement.specs.Legal.{within}
use Rattle.placement.specs.Length.{wirelength}
use Rattle.placement.specs.Order.{before}
use Rattle.placement.specs.Least.{Best, nothing, found, first_least, placements, corners}
use Rattle.placement.proofs.OrderLaws.{before_irreflexive, before_transitive}
use Rattle.placement.specs.Demand.{EarliestLeast}
use Rattle.placement.proofs.Demand.{within_in_corners, placements_long, found_earliest_least, found_nothing}
use Rattle.search_branches.specs.Branch.{replaces}
use Rattle.search_branches.proofs.Replaces.{Sooner, true_false, not_true_false, replaces_says}
use Rattle.search_branches.proofs.Betters.{Sized}

-- only placements within the die pass
abbrev pub Inside : Chip → (List Spot → Bool) → Type 0
Inside c P = (qs : List Spot) → P qs ≡ true → within c qs ≡ true

-- ps passes and has length l, and no placement that passes replaces it
pub record Stands (c : Chip) (P : List Spot → Bool) (l : ℕ) (ps : List Spot) : Type 0 where
  pub passed : P ps ≡ true
  pub long : l ≡ wirelength c ps
  pub stands : (qs : List Spot) → P qs ≡ true → replaces (wirelength c qs) qs l ps ≡ false

abbrev pub Answers : Chip → (List Spot → Bool) → Best → Type 0
Answers c P nothing = (qs : List Spot) → P qs ≡ true → ⊥
Answers c P (found l ps) = Stands c P l ps

module _ (c : Chip) (P : List Spot → Bool) (inside : Inside c P) where
  listed : (qs : List Spot) → P qs ≡ true → Memᴰ qs (placements c.macs (corners c))
  listed qs t = within_in_corners c qs (inside qs t)

  pub passes_long : (qs : List Spot) → P qs ≡ true → length qs ≡ length c.macs
  passes_long qs t = placements_long c.macs (corners c) qs (listed qs t)

  pub earliest_stands : (l : ℕ) (ps : List Spot) → EarliestLeast c P l ps → Stands c P l ps
  earliest_stands l ps e = record {
    passed = e.passed;
    long = e.long;
    stands = λ qs t. not_true_false (replaces (wirelength c qs) qs l ps) (λ r. by qs t (replaces_says (wirelength c qs) qs l ps r));
  }
    where
      later : (qs : List Spot) → P qs ≡ true → l ≡ wirelength c qs → before qs ps ≡ true → ⊥
      later qs t w b = true_false (before ps ps)
          (before_transitive ps qs ps (e.earliest qs t w (λ q. true_false (before ps ps) (ap (λ (s : List Spot). before s ps) (sym q) ∙ b) (before_irreflexive ps))) b)
          (before_irreflexive ps)

      by : (qs : List Spot) → P qs ≡ true → Sooner (wirelength c qs) qs l ps → ⊥
      by qs t (inl h) = let a = e.least qs t in omega arith
      by qs t (inr (h, b)) = later qs t (sym h) b

  answer_sized : (b : Best) → Answers c P b → Sized (length c.macs) b
  answer_sized nothing a = tt
  answer_sized (found l ps) a = passes_long ps a.passed

  -- PZ is the same test over integers
  module _ (PZ : List Corner → Bool) (same : (ps : List Spot) → PZ (integers ps) ≡ P ps) where
    answers : (b : Best) → first_least c PZ ≡ b → Answers c P b
    answers nothing e = found_nothing c PZ P same listed e
    answers (found l ps) e = earliest_stands l ps (found_earliest_least c PZ P same listed l ps e)

    -- the result answers the test
    first_answers : Answers c P (first_least c PZ)
    first_answers = answers (first_least c PZ) refl

    pub first_sized : Sized (length c.macs) (first_least c PZ)
    first_sized = answer_sized (first_least c PZ) first_answers
