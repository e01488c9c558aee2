-- Texts without a byte.
use mathlib.Core.Path.{◌≡◌, refl}
use mathlib.Core.Bool.{Bool, true, false, ◌&&◌, not, false≢true}
use mathlib.Core.List.{List, [], ◌∷◌, ◌++◌}
use Prim.Native.Nat.{ℕ}
use lib.Dec.{eqb}
use borrow.Author.Tests.{not-true}
use Rattle.num_text.specs.Number.{all_of}

pub and_left : (a b : Bool) → (a && b) ≡ true → a ≡ true
and_left true b e = refl
and_left false b e = e

pub and_right : (a b : Bool) → (a && b) ≡ true → b ≡ true
and_right true b e = e
and_right false b e = absurd (false≢true e)

pub and_both : (a b : Bool) → a ≡ true → b ≡ true → (a && b) ≡ true
and_both a b e f = rw (e, f)

pub all_append : (p : ℕ → Bool) (s t : List ℕ) → all_of p s ≡ true → all_of p t ≡ true → all_of p (s ++ t) ≡ true
unfolding all_of
all_append p [] t h g = g
all_append p (b ∷ s) t h g = rw (and_left (p b) (all_of p s) h) (all_append p s t (and_right (p b) (all_of p s) h) g)

-- s has no d
abbrev pub lacks : ℕ → List ℕ → Bool
lacks d s = all_of (λ b. not (eqb b d)) s

module _ (d b : ℕ) (s : List ℕ) (h : lacks d (b ∷ s) ≡ true) where
  pub first_lacks : eqb b d ≡ false
  unfolding all_of
  first_lacks = not-true (eqb b d) (and_left (not (eqb b d)) (lacks d s) h)

  pub rest_lacks : lacks d s ≡ true
  unfolding all_of
  rest_lacks = and_right (not (eqb b d)) (lacks d s) h
