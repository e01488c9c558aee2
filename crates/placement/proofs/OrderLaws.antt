-- The order of document 01 is a strict total order on placements of equal length. The first numbers of two lists decide, or they are equal and the rests decide; a placement can be told from its numbers.
use mathlib.Core.Path.{◌≡◌, refl, sym, ap, ◌∙◌}
use mathlib.Core.Bool.{Bool, true, false, ◌&&◌, ◌||◌, false≢true}
use mathlib.Core.List.{List, [], ◌∷◌}
use mathlib.Core.Logic.{◌⊎◌, inl, inr}
use Prim.Native.Nat.{ℕ, ◌+◌, ◌<◌}
use native.Mathlib.Decide.{dec_lt}
use native.Mathlib.Omega.{arith}
use lib.Dec.{ltb, eqb}
use lib.ListN.{length}
use borrow.Author.Tests.{ltb-true, eqb-true, lt-ltb, le-ltb, eq-eqb}
use Rattle.model.specs.declared.Spot.{Spot}
use Rattle.text_grammar.proofs.Lacks.{and_left, and_right}
use Rattle.placement.specs.Order.{keys, first_smaller, before}

pub or_says : (p q : Bool) → (p || q) ≡ true → (p ≡ true) ⊎ (q ≡ true)
or_says true q e = inl refl
or_says false q e = inr e

-- a first number that is smaller, or an equal one and a rest that comes before
abbrev Smaller : ℕ → ℕ → List ℕ → List ℕ → Type 0
Smaller a b s t = (a < b) ⊎ ((a ≡ b) × (first_smaller s t ≡ true))

module _ (a b : ℕ) (s t : List ℕ) where
  head_or_tail : first_smaller (a ∷ s) (b ∷ t) ≡ true → Smaller a b s t
  unfolding first_smaller
  head_or_tail e = by (or_says (ltb a b) (eqb a b && first_smaller s t) e)
    where
      by : (ltb a b ≡ true) ⊎ ((eqb a b && first_smaller s t) ≡ true) → Smaller a b s t
      by (inl h) = inl (ltb-true a b h)
      by (inr h) = inr (eqb-true a b (and_left (eqb a b) (first_smaller s t) h), and_right (eqb a b) (first_smaller s t) h)

  head_smaller : a < b → first_smaller (a ∷ s) (b ∷ t) ≡ true
  unfolding first_smaller
  head_smaller h = rw (lt-ltb a b h)

  tail_smaller : a ≡ b → first_smaller s t ≡ true → first_smaller (a ∷ s) (b ∷ t) ≡ true
  unfolding first_smaller
  tail_smaller q e = rw (le-ltb a b (omega arith), eq-eqb a b q) e

pub smaller_irreflexive : (s : List ℕ) → first_smaller s s ≡ false
unfolding first_smaller
smaller_irreflexive [] = refl
smaller_irreflexive (a ∷ s) = rw (le-ltb a a (omega arith), eq-eqb a a refl) (smaller_irreflexive s)

pub smaller_transitive : (r s t : List ℕ) → first_smaller r s ≡ true → first_smaller s t ≡ true → first_smaller r t ≡ true
unfolding first_smaller
smaller_transitive [] s t e f = absurd (false≢true e)
smaller_transitive (a ∷ r) [] t e f = absurd (false≢true e)
smaller_transitive (a ∷ r) (b ∷ s) [] e f = absurd (false≢true f)
smaller_transitive (a ∷ r) (b ∷ s) (c ∷ t) e f = by (smaller_transitive r s t) (head_or_tail a b r s e) (head_or_tail b c s t f)
  where
    by : (first_smaller r s ≡ true → first_smaller s t ≡ true → first_smaller r t ≡ true) → Smaller a b r s → Smaller b c s t → first_smaller (a ∷ r) (c ∷ t) ≡ true
    by rest (inl p) (inl q) = head_smaller a c r t (omega arith)
    by rest (inl p) (inr (q, g)) = head_smaller a c r t (omega arith)
    by rest (inr (p, h)) (inl q) = head_smaller a c r t (omega arith)
    by rest (inr (p, h)) (inr (q, g)) = tail_smaller a c r t (p ∙ q) (rest h g)

-- equal, or one before the other
abbrev pub Compared : {A : Type 0} → (A → A → Bool) → A → A → Type 0
Compared less a b = (a ≡ b) ⊎ ((less a b ≡ true) ⊎ (less b a ≡ true))

pub smaller_total : (s t : List ℕ) → length s ≡ length t → Compared first_smaller s t
smaller_total [] [] h = inl refl
smaller_total [] (b ∷ t) h = absurd (omega arith)
smaller_total (a ∷ s) [] h = absurd (omega arith)
smaller_total (a ∷ s) (b ∷ t) h = by (dec_lt a b) (dec_lt b a) (smaller_total s t (omega arith))
  where
    by : Dec (a < b) → Dec (b < a) → Compared first_smaller s t → Compared first_smaller (a ∷ s) (b ∷ t)
    by (yes p) q r = inr (inl (head_smaller a b s t p))
    by (no n) (yes q) r = inr (inr (head_smaller b a t s q))
    by (no n) (no m) (inl e) = let z : a ≡ b = omega arith in inl (rw (z, e))
    by (no n) (no m) (inr (inl e)) = inr (inl (tail_smaller a b s t (omega arith) e))
    by (no n) (no m) (inr (inr e)) = inr (inr (tail_smaller b a t s (omega arith) e))

same_spot : (p q : Spot) → p.x ≡ q.x → p.y ≡ q.y → p ≡ q
same_spot p q x y = ap (λ (a : ℕ). record { x = a; y = p.y }) x ∙ ap (λ (b : ℕ). record { x = q.x; y = b }) y

pub keys_injective : (ps qs : List Spot) → keys ps ≡ keys qs → ps ≡ qs
unfolding keys
keys_injective [] [] e = refl
keys_injective [] (q ∷ qs) e = cc
keys_injective (p ∷ ps) [] e = cc
keys_injective (p ∷ ps) (q ∷ qs) e = let x : p.x ≡ q.x = cc in let y : p.y ≡ q.y = cc in let r : keys ps ≡ keys qs = cc in
    let first = same_spot p q x y in let rest = keys_injective ps qs r in cc

pub length_keys : (ps : List Spot) → length (keys ps) ≡ length ps + length ps
unfolding keys
length_keys [] = refl
length_keys (p ∷ ps) = let h = length_keys ps in omega arith

pub before_irreflexive : (ps : List Spot) → before ps ps ≡ false
before_irreflexive ps = smaller_irreflexive (keys ps)

pub before_transitive : (ps qs rs : List Spot) → before ps qs ≡ true → before qs rs ≡ true → before ps rs ≡ true
before_transitive ps qs rs = smaller_transitive (keys ps) (keys qs) (keys rs)

module _ (ps qs : List Spot) (h : length ps ≡ length qs) where
  pub before_total : Compared before ps qs
  before_total = by (smaller_total (keys ps) (keys qs) (let m = length_keys ps in let n = length_keys qs in omega arith))
    where
      by : Compared first_smaller (keys ps) (keys qs) → Compared before ps qs
      by (inl e) = inl (keys_injective ps qs e)
      by (inr e) = inr e

  pub tie_equal : before ps qs ≡ false → before qs ps ≡ false → ps ≡ qs
  tie_equal e f = by before_total
    where
      by : Compared before ps qs → ps ≡ qs
      by (inl g) = g
      by (inr (inl g)) = absurd (false≢true (sym e ∙ g))
      by (inr (inr g)) = absurd (false≢true (sym f ∙ g))
