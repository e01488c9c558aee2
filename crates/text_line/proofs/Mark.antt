-- The steps of the test whether a mark stands at the front of a text.
use mathlib.Core.Path.{◌≡◌, refl, sym, ◌∙◌}
use mathlib.Core.Bool.{true, false, true≢false}
use mathlib.Core.List.{List, [], ◌∷◌}
use Prim.Native.Nat.{ℕ, suc, ◌+◌, ◌-◌, ◌≤◌, ◌<◌}
use native.Mathlib.Nat.{add-zero}
use native.Mathlib.Numerals.{add-one}
use native.Mathlib.Decide.{ℕ_discrete}
use native.Mathlib.Omega.{arith}
use lib.ListN.{length, get_or, take, drop, length-take, length-drop, drop_of_length-le}
use lib.Seq.{drop-cons, drop-drop, get_or-take}
use borrow.Author.Tests.{eq-eqb, ne_eqb}
use Rattle.model.specs.Step.{fault}
use Rattle.text_grammar.specs.Line.{strip}
use Rattle.text_line.specs.Steps.{Starts}

module _ (a b : ℕ) (m s : List ℕ) where
  strip_same : b ≡ a → strip (a ∷ m) (b ∷ s) ≡ strip m s
  unfolding strip
  strip_same e = rw (eq-eqb b a e, strip)

  strip_other : (b ≡ a → ⊥) → strip (a ∷ m) (b ∷ s) ≡ fault 2
  unfolding strip
  strip_other n = rw (ne_eqb b a n, strip)

strip_short : (m s : List ℕ) → length s < length m → strip m s ≡ fault 2
unfolding strip
strip_short [] s h = absurd (omega arith)
strip_short (a ∷ m) [] h = refl
strip_short (a ∷ m) (b ∷ s) h = by (ℕ_discrete b a) (strip_short m s (omega arith))
  where
    by : Dec (b ≡ a) → strip m s ≡ fault 2 → strip (a ∷ m) (b ∷ s) ≡ fault 2
    by (yes e) ih = strip_same a b m s e ∙ ih
    by (no n) ih = strip_other a b m s n

absent : (mark : List ℕ) (n : ℕ) (s : List ℕ) → strip (take n mark) s ≡ fault 2 → Starts mark n s false
absent mark n s e = record { left = e; fits = λ t. absurd (true≢false (sym t)) }

module _ (text mark : List ℕ) (a size : ℕ) (k : length mark ≡ 4) (f : size ≤ 4) where
  pub too_short : length text - a < size → Starts mark size (drop a text) false
  too_short h = absent mark size (drop a text) (strip_short (take size mark) (drop a text) (simp (length-take, length-drop) (omega arith)))

  pub at_start : strip (take size mark) (drop a text) ≡ strip (take size mark) (drop (a + 0) text)
  at_start = rw add-zero

  module _ (i : ℕ) (g : size ≤ length text - a) (inv : strip (take size mark) (drop a text) ≡ strip (drop i (take size mark)) (drop (a + i) text)) where
    next_bytes : i < size → strip (take size mark) (drop a text) ≡ strip (get_or mark i 0 ∷ drop (suc i) (take size mark)) (get_or text (a + i) 0 ∷ drop (suc (a + i)) text)
    next_bytes h = inv ∙ rw (drop-cons (take size mark) i 0 (rw length-take (omega arith)), get_or-take size mark i 0 h, drop-cons text (a + i) 0 (omega arith))

    pub other_byte : i < size → (get_or text (a + i) 0 ≡ get_or mark i 0 → ⊥) → Starts mark size (drop a text) false
    other_byte h n = absent mark size (drop a text) (next_bytes h ∙ strip_other _ _ _ _ n)

    pub same_byte : i < size → get_or text (a + i) 0 ≡ get_or mark i 0 → strip (take size mark) (drop a text) ≡ strip (drop (i + 1) (take size mark)) (drop (a + (i + 1)) text)
    same_byte h e = let q : a + (i + 1) ≡ suc (a + i) = omega arith in rw (q, add-one) (next_bytes h ∙ strip_same _ _ _ _ e)

    pub present : size ≤ i → i ≤ size → Starts mark size (drop a text) true
    unfolding strip
    present h l =
        let e : length (take size mark) ≡ i = length-take size mark ∙ omega arith in
        let q : i ≡ size = omega arith in
        record { left = rw (inv, drop_of_length-le (take size mark) {i = i} (omega arith), q, drop-drop); fits = λ t. rw length-drop (omega arith) }
