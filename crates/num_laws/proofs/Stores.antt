-- Stores into a list: runs of them, none past its end; a list of zeros.
use Prim.Native.Nat.{ℕ, zero, suc, ◌+◌, ◌≤◌, ◌<◌}
use mathlib.Core.Path.{◌≡◌, refl, sym, ap, ◌∙◌}
use mathlib.Core.List.{List, [], ◌∷◌, ◌++◌}
use native.Mathlib.Numerals.{add-one}
use native.Mathlib.Omega.{arith}
use lib.ListN.{length, get_or, take, set, replicate}
use lib.Seq.{sets, set_out, take-suc, length-take-le}

module _ {A : Type 0} where
  -- a run of stores after another
  pub sets_append : (s t d : List A) (i : ℕ) → sets d i (s ++ t) ≡ sets (sets d i s) (i + length s) t
  sets_append [] t d i = ap (λ (j : ℕ). sets d j t) (omega arith)
  sets_append (x ∷ s) t d i = sets_append s t (set d i x) (suc i) ∙ ap (λ (j : ℕ). sets (sets (set d i x) (suc i) s) j t) (omega arith)

  -- one store more of the list s, from place `at` on
  pub sets_more : (d s : List A) (at i : ℕ) (z : A) → i < length s → set (sets d at (take i s)) (at + i) (get_or s i z) ≡ sets d at (take (i + 1) s)
  sets_more d s at i z h =
      rw add-one (sym (ap (sets d at) (take-suc s i z h) ∙ sets_append (take i s) (get_or s i z ∷ []) d at
      ∙ ap (λ (k : ℕ). sets (sets d at (take i s)) (at + k) (get_or s i z ∷ [])) (length-take-le i s (omega arith))))

-- a list of zeros
pub zero_at : (n k : ℕ) → ◌≡◌ {A = ℕ} (get_or (replicate n 0) k 0) 0
zero_at zero k = refl
zero_at (suc n) zero = refl
zero_at (suc n) (suc k) = zero_at n k

-- nothing is stored past the end of a list
pub set_past : (s : List ℕ) (i v : ℕ) → length s ≤ i → s ≡ set s i v
set_past s i v h = sym (set_out s i v h)
