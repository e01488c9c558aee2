-- The fit of letters is not after any placement that keeps them.
use Prim.Native.Nat.{ℕ, ◌≤◌}
use mathlib.Core.Path.{◌≡◌, sym}
use mathlib.Core.Bool.{true, false}
use mathlib.Core.List.{List}
use mathlib.Core.Logic.{inr}
use lib.ListN.{length}
use Rattle.model.specs.declared.Spot.{Spot}
use Rattle.model.specs.Meaning.{Chip}
use Rattle.text_grammar.proofs.Lacks.{and_left, and_right}
use Rattle.placement.specs.Legal.{within, legal}
use Rattle.placement.specs.Length.{wirelength}
use Rattle.placement.specs.Order.{before}
use Rattle.placement.specs.Letters.{Letter, keeps_letters_z}
use Rattle.placement.proofs.Integers.{letters_same}
use Rattle.placement.specs.Pairs.{pairs, keeps_all, keeps_letters}
use Rattle.placement.specs.Least.{found, fit_of}
use Rattle.placement.proofs.Demand.{fit_found}
use Rattle.search_branches.specs.Branch.{replaces, in_branch}
use Rattle.search_branches.proofs.Replaces.{true_false, not_true_false, says_replaces}
use Rattle.search_branches.proofs.Betters.{Sized}
use Rattle.search_branches.proofs.Unions.{Inside, Stands, earliest_stands, first_sized}

module _ (c : Chip) (ls : List Letter) where
  pub letters_inside : Inside c (keeps_letters c ls)
  unfolding keeps_letters
  letters_inside ps h = and_left (within c ps) (keeps_all c ls (pairs c ps)) h

  pub branch_inside : Inside c (in_branch c ls)
  branch_inside ps h = letters_inside ps (and_right (legal c ps) (keeps_letters c ls ps) h)

  pub fit_sized : Sized (length c.macs) (fit_of c ls)
  fit_sized = first_sized c (keeps_letters c ls) letters_inside (keeps_letters_z c ls) (letters_same c ls)

  fit_stands : (l : ℕ) (ps : List Spot) → fit_of c ls ≡ found l ps → Stands c (keeps_letters c ls) l ps
  fit_stands l ps e = earliest_stands c (keeps_letters c ls) letters_inside l ps (fit_found c ls l ps e)

  -- a placement that keeps the letters is not shorter than the fit, and not earlier where it is equally long
  pub fit_first : (l : ℕ) (ps qs : List Spot) → fit_of c ls ≡ found l ps → keeps_letters c ls qs ≡ true → (l ≤ wirelength c qs) × (l ≡ wirelength c qs → before qs ps ≡ false)
  fit_first l ps qs e k = ((fit_found c ls l ps e).least qs k, λ w. not_true_false (before qs ps) (λ b. true_false (replaces (wirelength c qs) qs l ps) (says_replaces (wirelength c qs) qs l ps (inr (sym w, b))) ((fit_stands l ps e).stands qs k)))
