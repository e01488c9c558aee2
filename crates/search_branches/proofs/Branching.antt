-- With a dot for each pair every legal placement is in the branch.
use Prim.Native.Nat.{ℕ, zero, suc}
use mathlib.Core.Path.{◌≡◌, refl, sym}
use mathlib.Core.Bool.{Bool, true, false}
use mathlib.Core.List.{List, [], ◌∷◌}
use native.Mathlib.Omega.{arith}
use lib.ListN.{length, replicate}
use Rattle.model.specs.declared.Spot.{Spot}
use Rattle.model.specs.Meaning.{Chip}
use Rattle.placement.specs.Legal.{within, legal}
use Rattle.placement.specs.Letters.{dot}
use Rattle.placement.specs.Pairs.{Pair, pairs, keeps_all, keeps_letters}
use Rattle.search_branches.specs.Branch.{in_branch}
use Rattle.search_branches.proofs.Unions.{passes_long}
use Rattle.placement.proofs.Nearby.{legal_inside}
use Rattle.text_grammar.proofs.Lacks.{and_both}
use Rattle.search_branches.proofs.Overlaps.{}

pub same_test : (p q : Bool) → (p ≡ true → q ≡ true) → (q ≡ true → p ≡ true) → p ≡ q
same_test true q f g = sym (f refl)
same_test false true f g = g refl
same_test false false f g = refl

module _ (c : Chip) where
  -- dots, one for each pair, are kept
  dots_all : (p : ℕ) (qs : List Pair) → length qs ≡ p → keeps_all c (replicate p dot) qs ≡ true
  unfolding keeps_all
  dots_all zero [] e = refl
  dots_all zero (q ∷ qs) e = absurd (omega arith)
  dots_all (suc p) [] e = absurd (omega arith)
  dots_all (suc p) (q ∷ qs) e = dots_all p qs (omega arith)

  module _ (p : ℕ) (many : (ps : List Spot) → length ps ≡ length c.macs → length (pairs c ps) ≡ p) where
    -- every legal placement keeps them
    pub dots_kept : (ps : List Spot) → legal c ps ≡ true → keeps_letters c (replicate p dot) ps ≡ true
    unfolding keeps_letters
    dots_kept ps e = and_both (within c ps) (keeps_all c (replicate p dot) (pairs c ps)) (legal_inside c ps e) (dots_all p (pairs c ps) (many ps (passes_long c (legal c) (legal_inside c) ps e)))

    -- with a dot for each pair every legal placement is in the branch
    pub dots_branch : (ps : List Spot) → legal c ps ≡ true → in_branch c (replicate p dot) ps ≡ true
    dots_branch ps e = and_both (legal c ps) (keeps_letters c (replicate p dot) ps) e (dots_kept ps e)
