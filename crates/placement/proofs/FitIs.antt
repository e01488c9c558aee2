-- A placement that keeps the letters, is not longer than any that does and not larger anywhere than any equally long one is the fit of the letters.
use Prim.Native.Nat.{ℕ, suc, ◌≤◌}
use mathlib.Core.Path.{◌≡◌, refl, sym, ap, ◌∙◌}
use mathlib.Core.Bool.{Bool, true, false, ◌&&◌, false≢true}
use mathlib.Core.List.{List, [], ◌∷◌}
use mathlib.Core.Logic.{inl, inr}
use native.Mathlib.Nat.{le_antisymm}
use native.Mathlib.Omega.{arith}
use lib.Dec.{eqb}
use lib.ListN.{length, get_or}
use borrow.Author.Tests.{le-ltb, eqb-true}
use Rattle.num_text.specs.Number.{all_of}
use Rattle.model.specs.declared.Spot.{Spot}
use Rattle.model.specs.Meaning.{Chip, blank_spot}
use Rattle.text_grammar.proofs.Lacks.{and_left}
use Rattle.geometry.specs.Box.{in_die}
use Rattle.placement.specs.Legal.{boxes, within}
use Rattle.placement.specs.Length.{wirelength}
use Rattle.placement.specs.Order.{keys, first_smaller, before}
use Rattle.placement.specs.Letters.{Letter}
use Rattle.placement.specs.Pairs.{pairs, keeps_all, keeps_letters}
use Rattle.placement.specs.Least.{Best, nothing, found, fit_of}
use Rattle.placement.proofs.OrderLaws.{Compared, before_total, before_irreflexive}
use Rattle.placement.specs.Demand.{EarliestLeast}
use Rattle.placement.proofs.Demand.{fit_found, nothing_fits}

-- every coordinate of ps is at most that of qs
pub record NowhereLarger (ps qs : List Spot) : Type 0 where
  pub x : (i : ℕ) → (get_or ps i blank_spot).x ≤ (get_or qs i blank_spot).x
  pub y : (i : ℕ) → (get_or ps i blank_spot).y ≤ (get_or qs i blank_spot).y

and_no : (b : Bool) → (b && false) ≡ false
and_no true = refl
and_no false = refl

-- then qs does not come before ps
pub not_earlier : (ps qs : List Spot) → NowhereLarger ps qs → before qs ps ≡ false
unfolding keys first_smaller
not_earlier ps [] h = refl
not_earlier [] (q ∷ qs) h = refl
not_earlier (p ∷ ps) (q ∷ qs) h =
    let ih = not_earlier ps qs (record { x = λ i. h.x (suc i); y = λ i. h.y (suc i) }) in
    rw (le-ltb q.x p.x (h.x 0), le-ltb q.y p.y (h.y 0), ih, and_no, and_no)

pub letters_long : (c : Chip) (ls : List Letter) (ps : List Spot) → keeps_letters c ls ps ≡ true → length ps ≡ length c.macs
unfolding keeps_letters within
letters_long c ls ps h =
    eqb-true (length ps) (length c.macs) (and_left (eqb (length ps) (length c.macs)) (all_of (in_die c.die) (boxes c.macs ps)) (and_left (within c ps) (keeps_all c ls (pairs c ps)) h))

module _ (c : Chip) (ls : List Letter) (ps : List Spot) (keeps : keeps_letters c ls ps ≡ true) (least : (qs : List Spot) → keeps_letters c ls qs ≡ true → wirelength c ps ≤ wirelength c qs) where
  pub fit_is : ((qs : List Spot) → keeps_letters c ls qs ≡ true → wirelength c qs ≡ wirelength c ps → NowhereLarger ps qs) → fit_of c ls ≡ found (wirelength c ps) ps
  fit_is small = by (fit_of c ls) refl
    where
      same : (l : ℕ) (qs : List Spot) → EarliestLeast c (keeps_letters c ls) l qs → l ≡ wirelength c ps → Compared before qs ps → found l qs ≡ found (wirelength c ps) ps
      same l qs e w (inl q) = rw (w, q)
      same l qs e w (inr (inl q)) = absurd (false≢true (sym (not_earlier ps qs (small qs e.passed (sym e.long ∙ w))) ∙ q))
      same l qs e w (inr (inr q)) = absurd (false≢true (sym (not_earlier ps qs (small qs e.passed (sym e.long ∙ w))) ∙ e.earliest ps keeps w (λ r. false≢true (sym (before_irreflexive ps) ∙ ap (before ps) r ∙ q))))

      by : (b : Best) → fit_of c ls ≡ b → b ≡ found (wirelength c ps) ps
      by nothing e = absurd (nothing_fits c ls e ps keeps)
      by (found l qs) e =
          let f = fit_found c ls l qs e in
          same l qs f (le_antisymm (f.least ps keeps) (let a = least qs f.passed in let q = f.long in omega arith))
          (before_total qs ps (letters_long c ls qs f.passed ∙ sym (letters_long c ls ps keeps)))

pub no_fit_is : (c : Chip) (ls : List Letter) → ((qs : List Spot) → keeps_letters c ls qs ≡ true → ⊥) → fit_of c ls ≡ nothing
no_fit_is c ls none = by (fit_of c ls) refl
  where
    by : (b : Best) → fit_of c ls ≡ b → b ≡ nothing
    by nothing e = refl
    by (found l qs) e = absurd (none qs (fit_found c ls l qs e).passed)
