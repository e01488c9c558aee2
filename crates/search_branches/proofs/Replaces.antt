-- Shorter, or equally long and earlier, is a strict total order on placements of one length.
use Prim.Native.Nat.{ℕ, ◌<◌}
use mathlib.Core.Path.{◌≡◌, refl, sym, ◌∙◌}
use mathlib.Core.Bool.{Bool, true, false, ◌&&◌, false≢true, or-true}
use mathlib.Core.List.{List}
use mathlib.Core.Logic.{◌⊎◌, inl, inr}
use native.Mathlib.Decide.{dec_lt}
use native.Mathlib.Omega.{arith}
use lib.Dec.{ltb, eqb}
use lib.ListN.{length}
use borrow.Author.Tests.{ltb-true, eqb-true, lt-ltb, le-ltb, eq-eqb}
use Rattle.model.specs.declared.Spot.{Spot}
use Rattle.text_grammar.proofs.Lacks.{and_left, and_right}
use Rattle.placement.specs.Order.{before}
use Rattle.placement.proofs.OrderLaws.{Compared, or_says, before_irreflexive, before_transitive, before_total}
use Rattle.search_branches.specs.Branch.{replaces}

pub true_false : (t : Bool) → t ≡ true → t ≡ false → ⊥
true_false t e f = false≢true (sym f ∙ e)

pub not_true_false : (t : Bool) → (t ≡ true → ⊥) → t ≡ false
not_true_false true n = absurd (n refl)
not_true_false false n = refl

-- shorter, or equally long and earlier
abbrev pub Sooner : ℕ → List Spot → ℕ → List Spot → Type 0
Sooner l ps m qs = (l < m) ⊎ ((l ≡ m) × (before ps qs ≡ true))

module _ (l : ℕ) (ps : List Spot) (m : ℕ) (qs : List Spot) where
  pub replaces_says : replaces l ps m qs ≡ true → Sooner l ps m qs
  replaces_says e = by (or_says (ltb l m) (eqb l m && before ps qs) e)
    where
      by : (ltb l m ≡ true) ⊎ ((eqb l m && before ps qs) ≡ true) → Sooner l ps m qs
      by (inl h) = inl (ltb-true l m h)
      by (inr h) = inr (eqb-true l m (and_left (eqb l m) (before ps qs) h), and_right (eqb l m) (before ps qs) h)

  pub says_replaces : Sooner l ps m qs → replaces l ps m qs ≡ true
  says_replaces (inl h) = rw (lt-ltb l m h)
  says_replaces (inr h) = rw (eq-eqb l m h.0, h.1) (or-true (ltb l m))

pub replaces_irreflexive : (l : ℕ) (ps : List Spot) → replaces l ps l ps ≡ false
replaces_irreflexive l ps = rw (le-ltb l l (omega arith), eq-eqb l l refl) (before_irreflexive ps)

module _ (k : ℕ) (os : List Spot) (l : ℕ) (ps : List Spot) (m : ℕ) (qs : List Spot) where
  pub replaces_transitive : replaces k os l ps ≡ true → replaces l ps m qs ≡ true → replaces k os m qs ≡ true
  replaces_transitive e f = says_replaces k os m qs (by (replaces_says k os l ps e) (replaces_says l ps m qs f))
    where
      by : Sooner k os l ps → Sooner l ps m qs → Sooner k os m qs
      by (inl p) (inl q) = inl (omega arith)
      by (inl p) (inr (q, g)) = inl (omega arith)
      by (inr (p, h)) (inl q) = inl (omega arith)
      by (inr (p, h)) (inr (q, g)) = inr (p ∙ q, before_transitive os ps qs h g)

module _ (l : ℕ) (ps : List Spot) (m : ℕ) (qs : List Spot) where
  pub replaces_asymmetric : replaces l ps m qs ≡ true → replaces m qs l ps ≡ false
  replaces_asymmetric e = not_true_false (replaces m qs l ps) (λ f. true_false (replaces l ps l ps) (replaces_transitive l ps m qs l ps e f) (replaces_irreflexive l ps))

  -- equal, or one replaces the other
  abbrev pub OneReplaces : Type 0
  OneReplaces = ((l ≡ m) × (ps ≡ qs)) ⊎ ((replaces l ps m qs ≡ true) ⊎ (replaces m qs l ps ≡ true))

  module _ (h : length ps ≡ length qs) where
    pub replaces_total : OneReplaces
    replaces_total = by (dec_lt l m) (dec_lt m l) (before_total ps qs h)
      where
        by : Dec (l < m) → Dec (m < l) → Compared before ps qs → OneReplaces
        by (yes p) q r = inr (inl (says_replaces l ps m qs (inl p)))
        by (no n) (yes q) r = inr (inr (says_replaces m qs l ps (inl q)))
        by (no n) (no o) (inl e) = inl (omega arith, e)
        by (no n) (no o) (inr (inl e)) = inr (inl (says_replaces l ps m qs (inr (omega arith, e))))
        by (no n) (no o) (inr (inr e)) = inr (inr (says_replaces m qs l ps (inr (omega arith, e))))

module _ (k : ℕ) (os : List Spot) (l : ℕ) (ps : List Spot) (m : ℕ) (qs : List Spot) (h : length ps ≡ length qs) where
  -- what does not replace the second, where the second does not replace the third, does not replace the third
  pub still_stands : replaces k os l ps ≡ false → replaces l ps m qs ≡ false → replaces k os m qs ≡ false
  still_stands e f = not_true_false (replaces k os m qs) (λ g. by g (replaces_total l ps m qs h))
    where
      by : replaces k os m qs ≡ true → OneReplaces l ps m qs → ⊥
      by g (inl (p, q)) = true_false (replaces k os l ps) (rw (p, q) g) e
      by g (inr (inl r)) = true_false (replaces l ps m qs) r f
      by g (inr (inr r)) = true_false (replaces k os l ps) (replaces_transitive k os m qs l ps g r) e
