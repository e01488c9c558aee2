-- Of results with placements of one length: a is not after b when b does not replace a. This is an order, and the better of two is the first that is not after both.
use Prim.Native.Nat.{ℕ}
use mathlib.Core.Path.{◌≡◌, refl, sym, ap, ◌∙◌}
use mathlib.Core.Bool.{Bool}
use Rattle.placement.specs.Least.{Best, nothing, found}
use Rattle.search_branches.specs.Branch.{pick, better}
use Rattle.search_halves.specs.Result.{NotAfter}
use Rattle.search_branches.proofs.Replaces.{replaces_irreflexive}
use Rattle.search_branches.proofs.Betters.{Sized, better_commutative, better_associative}

pub after_same : (a : Best) → NotAfter a a
after_same nothing = refl
after_same (found l ps) = ap (λ (t : Bool). pick t (found l ps) (found l ps)) (replaces_irreflexive l ps)

module _ (n : ℕ) where
  pub after_trans : (a b d : Best) → Sized n a → Sized n b → Sized n d → NotAfter a b → NotAfter b d → NotAfter a d
  after_trans a b d p q r e f = ap (λ (t : Best). better t d) (sym e) ∙ (better_associative n a b d p q r ∙ (ap (better a) f ∙ e))

  pub after_antisym : (a b : Best) → Sized n a → Sized n b → NotAfter a b → NotAfter b a → a ≡ b
  after_antisym a b p q e f = sym e ∙ (better_commutative n a b p q ∙ f)

  pub better_first : (a b : Best) → Sized n a → Sized n b → NotAfter (better a b) a
  better_first a b p q =
      better_associative n a b a p q p ∙ (ap (better a) (better_commutative n b a q p) ∙ (sym (better_associative n a a b p p q) ∙ ap (λ (t : Best). better t b) (after_same a)))

  pub better_second : (a b : Best) → Sized n a → Sized n b → NotAfter (better a b) b
  better_second a b p q = better_associative n a b b p q q ∙ ap (better a) (after_same b)
