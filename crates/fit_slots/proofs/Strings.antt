-- Letter strings: dots, and the letters that a string stands for.
use Prim.Native.Nat.{ℕ, zero, suc, ◌≤◌}
use mathlib.Core.Path.{◌≡◌, refl, ap}
use mathlib.Core.Bool.{true}
use mathlib.Core.List.{List, [], ◌∷◌}
use native.Mathlib.Nat.{le_of_suc-le-suc}
use native.Mathlib.Omega.{arith}
use lib.ListN.{length, take, replicate, length-replicate}
use Rattle.num_text.specs.Number.{all_of}
use Rattle.placement.specs.Letters.{Letter, dot}
use Rattle.fit_slots.specs.Fit.{are_letters, letters_of, dots, stands_for}

-- ---- dots

pub dots_are : (p : ℕ) → are_letters (dots p) ≡ true
unfolding all_of
dots_are zero = refl
dots_are (suc p) = dots_are p

pub dots_letters : (p : ℕ) → letters_of (dots p) ≡ replicate p dot
dots_letters zero = refl
dots_letters (suc p) = ap (λ (t : List Letter). dot ∷ t) (dots_letters p)

pub take_dots : (n p : ℕ) → p ≤ n → take p (dots n) ≡ dots p
take_dots zero zero h = refl
take_dots zero (suc p) h = absurd (omega arith)
take_dots (suc n) zero h = refl
take_dots (suc n) (suc p) h = ap (λ (t : List ℕ). 46 ∷ t) (take_dots n p (le_of_suc-le-suc h))

-- ---- the letters that a string stands for

module _ (p : ℕ) where
  pub none_given : (s : List ℕ) → length s ≡ 0 → stands_for p s ≡ dots p
  none_given [] e = refl
  none_given (b ∷ s) e = absurd (omega arith)

  pub some_given : (s : List ℕ) → (length s ≡ 0 → ⊥) → stands_for p s ≡ s
  some_given [] n = absurd (n refl)
  some_given (b ∷ s) n = refl

pub stands_are : (p : ℕ) (s : List ℕ) → are_letters (stands_for p s) ≡ are_letters s
unfolding all_of
stands_are p [] = dots_are p
stands_are p (b ∷ s) = refl

-- one letter for each pair
pub each_given : (p : ℕ) (s : List ℕ) → length s ≡ p → stands_for p s ≡ s
each_given zero [] e = refl
each_given (suc p) [] e = absurd (omega arith)
each_given p (b ∷ s) e = refl

pub dots_given : (p : ℕ) → stands_for p (dots p) ≡ dots p
dots_given p = each_given p (dots p) (length-replicate p 46)
