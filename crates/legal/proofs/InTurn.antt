-- Each box tested in turn, in the form of the needs of `legal_boxes` and `is_legal`.
use mathlib.Core.Path.{◌≡◌, sym, ap, ◌∙◌}
use mathlib.Core.Bool.{Bool, true, false, not, ◌&&◌}
use mathlib.Core.List.{List, [], map}
use Prim.Native.Nat.{ℕ, ◌+◌, ◌≤◌, ◌<◌}
use native.Mathlib.Numerals.{add-one}
use native.Mathlib.Omega.{arith}
use lib.ListN.{length, get_or, take}
use lib.Seq.{take_all, slice, slice_empty, slice-cons, take-suc}
use borrow.Author.Tests.{not-true, not-false}
use Rattle.model.specs.declared.Die.{Die}
use Rattle.model.specs.declared.Fix.{Fix}
use Rattle.model.specs.declared.Spot.{Spot}
use Rattle.model.specs.declared.Chip.{Chip}
use Rattle.geometry.specs.declared.Box.{Box}
use Rattle.geometry.specs.Box.{box_of, blank_box}
use Rattle.geometry.proofs.Clear.{take_boxes_of}
use Rattle.placement.specs.Legal.{boxes}
use Rattle.legal.specs.Turn.{legal_box, legal_after, legal_held}

-- what the loop over the n boxes bs has left to test
module _ (g : ℕ) (d : Die) (fs bs : List Box) (n : ℕ) where
  abbrev pub Left : ℕ → Type 0
  Left i = legal_after g d fs [] (take n bs) ≡ legal_after g d fs (take i bs) (slice i n bs)

  module _ (long : length bs ≡ 8) (few : n ≤ 8) (i : ℕ) (h : i < n) (left : Left i) where
    next_tested : legal_after g d fs [] (take n bs) ≡ (legal_box g d fs (take i bs) (get_or bs i blank_box) && legal_after g d fs (take (i + 1) bs) (slice (i + 1) n bs))
    unfolding legal_after
    next_tested = left ∙ rw (slice-cons i n bs blank_box h (omega arith), add-one, take-suc bs i blank_box (omega arith))

    module _ (r : Bool) (e : r ≡ legal_box g d fs (take i bs) (get_or bs i blank_box)) where
      pub one_illegal : not r ≡ true → false ≡ legal_after g d fs [] (take n bs)
      one_illegal a = rw (next_tested, ← e, not-true r a)

      pub one_legal : not r ≡ false → Left (i + 1)
      one_legal a = rw (next_tested, ← e, not-false r a)

  pub all_tested : (i : ℕ) → i ≤ n → n ≤ i → Left i → true ≡ legal_after g d fs [] (take n bs)
  unfolding legal_after
  all_tested i h o left = let e : i ≡ n = omega arith in rw (left, e, slice_empty n bs)

-- the fixes are the boxes that were tested; more than all of eight boxes are all
module _ (g : ℕ) (d : Die) (fixes : List Fix) (k : ℕ) (fs : List Box) (ef : fs ≡ map box_of fixes) (bs : List Box) (n : ℕ) (r : Bool) where
  pub fixes_tested : r ≡ legal_after g d (take k fs) [] (take n bs) → r ≡ legal_after g d (map box_of (take k fixes)) [] (take n bs)
  fixes_tested e = e ∙ ap (λ (s : List Box). legal_after g d s [] (take n bs)) (ap (take k) ef ∙ take_boxes_of k fixes)

  pub tested_all : length bs ≡ 8 → 8 < n → r ≡ legal_after g d (take k fs) [] (take 8 bs) → r ≡ legal_after g d (map box_of (take k fixes)) [] (take n bs)
  tested_all l h e = fixes_tested (e ∙ ap (legal_after g d (take k fs) []) (take_all 8 bs (omega arith) ∙ sym (take_all n bs (omega arith))))

-- those of a chip
pub boxes_legal : (c : Chip) (s : List Spot) (bs : List Box) (a : Bool) → bs ≡ boxes c.macs s → a ≡ legal_after 0 c.die (map box_of (take c.k c.fixes)) [] (take c.n bs) → a ≡ legal_held c s
boxes_legal c s bs a f g = rw (g, f)
