-- A test that a number is at most another, in the form of the needs of functions that make it, and what its answer tells.
use mathlib.Core.Path.{◌≡◌, ◌∙◌}
use Prim.Native.Nat.{ℕ, ◌≤◌, ◌<◌}
use native.Mathlib.Decide.{dec_le}
use native.Mathlib.Omega.{arith}
use lib.Dec.{leb}
use borrow.Author.Tests.{le-leb, lt-leb}
use Rattle.text_grammar.specs.Steps.{need}

module _ (f v most : ℕ) where
  module _ (n : ℕ) (e : n ≡ need (leb v most) f 0) where
    pub told_above : (n ≡ 0 → ⊥) → (n ≡ f) × (most < v)
    told_above z = by (dec_le v most)
      where
        by : Dec (v ≤ most) → (n ≡ f) × (most < v)
        by (yes h) = absurd (z (e ∙ rw (le-leb v most h)))
        by (no h) = (e ∙ rw (lt-leb v most (omega arith)), omega arith)

    pub told_within : (f ≡ 0 → ⊥) → n ≡ 0 → v ≤ most
    told_within x z = by (dec_le v most)
      where
        by : Dec (v ≤ most) → v ≤ most
        by (yes h) = h
        by (no h) = let q : n ≡ f = e ∙ rw (lt-leb v most (omega arith)) in absurd (x (omega arith))
