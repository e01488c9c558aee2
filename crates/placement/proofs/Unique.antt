-- A chip has one earliest least placement (document 01, "a chip alone fixes its record"). Of two that differ, each would come before the other, and so before itself.
use Prim.Native.Nat.{ℕ}
use mathlib.Core.Path.{◌≡◌, sym, ap, ◌∙◌}
use mathlib.Core.Bool.{Bool, true, false, false≢true}
use mathlib.Core.List.{List}
use mathlib.Core.Logic.{inl, inr}
use native.Mathlib.Omega.{arith}
use lib.ListN.{length}
use Rattle.model.specs.declared.Spot.{Spot}
use Rattle.model.specs.Meaning.{Chip}
use Rattle.placement.specs.Legal.{legal}
use Rattle.placement.specs.Order.{before}
use Rattle.placement.specs.Least.{corners}
use Rattle.placement.proofs.OrderLaws.{Compared, before_irreflexive, before_transitive, before_total}
use Rattle.placement.specs.Demand.{EarliestLeast}
use Rattle.placement.proofs.Demand.{placements_long, legal_in_corners}

-- for every test that only placements of one length can pass
module _ (c : Chip) (passes : List Spot → Bool) (n : ℕ) (long : (qs : List Spot) → passes qs ≡ true → length qs ≡ n) where
  module _ (l m : ℕ) (ps qs : List Spot) (p : EarliestLeast c passes l ps) (q : EarliestLeast c passes m qs) where
    pub same_length : l ≡ m
    same_length = let a = p.least qs q.passed in let b = q.least ps p.passed in omega (arith, p.long, q.long)

    differ : (ps ≡ qs → ⊥) → ⊥
    differ n = false≢true (sym (before_irreflexive ps) ∙ before_transitive ps qs ps
        (p.earliest qs q.passed (same_length ∙ q.long) (λ e. n (sym e)))
        (q.earliest ps p.passed (sym same_length ∙ p.long) n))

    pub same_placement : ps ≡ qs
    same_placement = by (before_total ps qs (long ps p.passed ∙ sym (long qs q.passed)))
      where
        by : Compared before ps qs → ps ≡ qs
        by (inl e) = e
        by (inr (inl e)) = absurd (differ (λ g. false≢true (sym (before_irreflexive ps) ∙ (ap (before ps) g ∙ e))))
        by (inr (inr e)) = absurd (differ (λ g. false≢true (sym (before_irreflexive ps) ∙ (ap (λ (t : List Spot). before t ps) g ∙ e))))

legal_long : (c : Chip) (qs : List Spot) → legal c qs ≡ true → length qs ≡ length c.macs
legal_long c qs h = placements_long c.macs (corners c) qs (legal_in_corners c qs h)

-- the earliest least legal placement and its wirelength
module _ (c : Chip) (l m : ℕ) (ps qs : List Spot) (p : EarliestLeast c (legal c) l ps) (q : EarliestLeast c (legal c) m qs) where
  pub one_length : l ≡ m
  one_length = same_length c (legal c) (length c.macs) (legal_long c) l m ps qs p q

  pub one_placement : ps ≡ qs
  one_placement = same_placement c (legal c) (length c.macs) (legal_long c) l m ps qs p q
