-- Of results with placements of one length, the better one: in any order and in any grouping.
use Prim.{Unit}
use Prim.Native.Nat.{ℕ}
use mathlib.Core.Path.{◌≡◌, refl, sym, ◌∙◌}
use mathlib.Core.Bool.{Bool, true, false}
use mathlib.Core.Logic.{inl, inr}
use lib.ListN.{length}
use Rattle.placement.specs.Least.{Best, nothing, found}
use Rattle.search_branches.specs.Branch.{replaces, pick, better}
use Rattle.search_branches.proofs.Replaces.{OneReplaces, replaces_transitive, replaces_asymmetric, replaces_total, still_stands}

-- nothing, or a placement of n corners
abbrev pub Sized : ℕ → Best → Type 0
Sized n nothing = Unit {0}
Sized n (found l ps) = length ps ≡ n

pub nothing_better : (a : Best) → better nothing a ≡ a
nothing_better nothing = refl
nothing_better (found l ps) = refl

module _ (n : ℕ) where
  pick_sized : (t : Bool) (a b : Best) → Sized n a → Sized n b → Sized n (pick t a b)
  pick_sized true a b p q = p
  pick_sized false a b p q = q

  pub better_sized : (a b : Best) → Sized n a → Sized n b → Sized n (better a b)
  better_sized a nothing p q = p
  better_sized nothing (found l ps) p q = q
  better_sized (found m qs) (found l ps) p q = pick_sized (replaces l ps m qs) (found l ps) (found m qs) q p

  pub better_commutative : (a b : Best) → Sized n a → Sized n b → better a b ≡ better b a
  better_commutative nothing nothing p q = refl
  better_commutative nothing (found l ps) p q = refl
  better_commutative (found m qs) nothing p q = refl
  better_commutative (found m qs) (found l ps) p q = by (replaces_total l ps m qs (q ∙ sym p))
    where
      by : OneReplaces l ps m qs → pick (replaces l ps m qs) (found l ps) (found m qs) ≡ pick (replaces m qs l ps) (found m qs) (found l ps)
      by (inl (e, f)) = rw (e, f)
      by (inr (inl r)) = rw (r, replaces_asymmetric l ps m qs r)
      by (inr (inr r)) = rw (r, replaces_asymmetric m qs l ps r)

  pub better_associative : (a b d : Best) → Sized n a → Sized n b → Sized n d → better (better a b) d ≡ better a (better b d)
  better_associative a b nothing p q r = refl
  better_associative a nothing (found k os) p q r = refl
  better_associative nothing (found l ps) (found k os) p q r = sym (nothing_better (better (found l ps) (found k os)))
  better_associative (found m qs) (found l ps) (found k os) p q r = by (replaces l ps m qs) (replaces k os l ps) refl refl
    where
      by : (t u : Bool) → replaces l ps m qs ≡ t → replaces k os l ps ≡ u
          → better (pick t (found l ps) (found m qs)) (found k os) ≡ better (found m qs) (pick u (found k os) (found l ps))
      by true true e f = rw (f, replaces_transitive k os l ps m qs f e)
      by true false e f = rw (e, f)
      by false true e f = refl
      by false false e f = rw (e, still_stands k os l ps m qs (q ∙ sym p) f e)
