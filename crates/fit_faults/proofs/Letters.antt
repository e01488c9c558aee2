-- Whether bytes are letters, in the form of the needs of `is_letter` and `are_letters`.
use Prim.Native.Nat.{ℕ, zero, suc, ◌+◌, ◌≤◌, ◌<◌}
use mathlib.Core.Path.{◌≡◌, refl, sym, ap, ◌∙◌}
use mathlib.Core.Bool.{Bool, true, false, not, ◌&&◌}
use mathlib.Core.List.{List, [], ◌∷◌}
use native.Mathlib.Numerals.{add-one}
use native.Mathlib.Omega.{arith}
use lib.Dec.{eqb}
use lib.ListN.{length, get_or, drop}
use lib.Seq.{drop-cons}
use borrow.Author.Tests.{eq-eqb, ne_eqb, not-true, not-false}
use Rattle.num_text.specs.Number.{all_of}
use Rattle.fit_slots.specs.Fit.{is_letter, are_letters}

module _ (b : ℕ) where
  pub letter_l : b ≡ 76 → true ≡ is_letter b
  letter_l e = rw (eq-eqb b 76 e)

  module _ (l : b ≡ 76 → ⊥) where
    pub letter_r : b ≡ 82 → true ≡ is_letter b
    letter_r e = rw (ne_eqb b 76 l, eq-eqb b 82 e)

    module _ (r : b ≡ 82 → ⊥) where
      pub letter_b : b ≡ 66 → true ≡ is_letter b
      letter_b e = rw (ne_eqb b 76 l, ne_eqb b 82 r, eq-eqb b 66 e)

      module _ (w : b ≡ 66 → ⊥) where
        pub letter_a : b ≡ 65 → true ≡ is_letter b
        letter_a e = rw (ne_eqb b 76 l, ne_eqb b 82 r, ne_eqb b 66 w, eq-eqb b 65 e)

        pub letter_dot : (b ≡ 65 → ⊥) → eqb b 46 ≡ is_letter b
        letter_dot a = rw (ne_eqb b 76 l, ne_eqb b 82 r, ne_eqb b 66 w, ne_eqb b 65 a)

-- ---- the letter string, from its first byte on

module _ (s : List ℕ) where
  module _ (i : ℕ) (inv : are_letters s ≡ are_letters (drop i s)) where
    module _ (h : i < length s) (r : Bool) (e : r ≡ is_letter (get_or s i 0)) where
      next : are_letters (drop i s) ≡ (r && are_letters (drop (suc i) s))
      unfolding all_of
      next = ap are_letters (drop-cons s i 0 h) ∙ ap (λ (b : Bool). b && are_letters (drop (suc i) s)) (sym e)

      pub letters_fail : not r ≡ true → false ≡ are_letters s
      letters_fail n = let f : r ≡ false = not-true r n in sym (inv ∙ next ∙ ap (λ (b : Bool). b && are_letters (drop (suc i) s)) f)

      pub letters_more : not r ≡ false → are_letters s ≡ are_letters (drop (i + 1) s)
      letters_more n = rw add-one (let f : r ≡ true = not-false r n in inv ∙ next ∙ ap (λ (b : Bool). b && are_letters (drop (suc i) s)) f)

    pub letters_all : length s ≤ i → true ≡ are_letters s
    unfolding all_of
    letters_all h = sym (inv ∙ ap are_letters (drop_past s i h))
      where
        drop_past : (t : List ℕ) (k : ℕ) → length t ≤ k → drop k t ≡ []
        drop_past [] zero l = refl
        drop_past [] (suc k) l = refl
        drop_past (a ∷ t) zero l = absurd (omega arith)
        drop_past (a ∷ t) (suc k) l = drop_past t k (omega arith)
