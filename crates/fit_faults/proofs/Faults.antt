-- How many letters a string stands for; 11, 12, 15, or none: in the form of the needs of `letters_meant` and `fit_fault`.
use Prim.Native.Nat.{ℕ, ◌≤◌, ◌<◌}
use mathlib.Core.Path.{◌≡◌, sym, ap, ◌∙◌}
use mathlib.Core.Bool.{Bool, true, false, not}
use mathlib.Core.List.{List, [], ◌∷◌}
use lib.Dec.{eqb, leb}
use lib.ListN.{length, length-replicate}
use borrow.Author.Tests.{eq-eqb, ne_eqb, le-leb, lt-leb, not-true, not-false}
use Rattle.refusals.specs.Tests.{test, first_failed}
use Rattle.refusals.proofs.FirstFailed.{none_failed, fails_here, fails_later}
use Rattle.fit_slots.specs.Fit.{are_letters, stands_for, tests_by}
use Rattle.fit_slots.proofs.Strings.{none_given, some_given, stands_are}

-- ---- the number of letters

pub dots_meant : (s : List ℕ) (count : ℕ) → length s ≡ 0 → count ≡ length (stands_for count s)
dots_meant s count e = sym (ap (λ (t : List ℕ). length t) (none_given count s e) ∙ length-replicate count 46)

pub letters_meant : (s : List ℕ) (count : ℕ) → (length s ≡ 0 → ⊥) → length s ≡ length (stands_for count s)
letters_meant s count n = ap (λ (t : List ℕ). length t) (sym (some_given count s n))

-- ---- the first test that fails

module _ (s : List ℕ) (count slots room : ℕ) (given : ℕ) (eg : given ≡ length (stands_for count s)) where
  abbrev t : List ℕ
  t = stands_for count s

  pub wrong_count : (given ≡ count → ⊥) → 11 ≡ first_failed (tests_by count slots t room)
  wrong_count n = fails_here 11 _ _ (ne_eqb (length t) count (λ e. n (eg ∙ e)))

  module _ (el : given ≡ count) (b : Bool) (eb : b ≡ are_letters s) where
    counted : eqb (length t) count ≡ true
    counted = eq-eqb (length t) count (sym eg ∙ el)

    lettered : are_letters t ≡ b
    lettered = stands_are count s ∙ sym eb

    pub wrong_letter : not b ≡ true → 12 ≡ first_failed (tests_by count slots t room)
    wrong_letter n = fails_later 11 _ _ 12 counted (fails_here 12 _ _ (lettered ∙ not-true b n))

    -- the first two tests are passed
    later : not b ≡ false → (k : ℕ) → k ≡ first_failed (test 15 (leb slots room) ∷ []) → k ≡ first_failed (tests_by count slots t room)
    later n k e = fails_later 11 _ _ k counted (fails_later 12 _ _ k (lettered ∙ not-false b n) e)

    pub short_list : not b ≡ false → room < slots → 15 ≡ first_failed (tests_by count slots t room)
    short_list n l = later n 15 (fails_here 15 _ _ (lt-leb slots room l))

    pub all_pass : not b ≡ false → slots ≤ room → 0 ≡ first_failed (tests_by count slots t room)
    all_pass n l = later n 0 (fails_later 15 _ _ 0 (le-leb slots room l) none_failed)
