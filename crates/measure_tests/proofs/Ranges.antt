-- Positions within 0..1,024, in the form of the needs of `in_range`.
use mathlib.Core.Path.{◌≡◌, sym, ◌∙◌}
use mathlib.Core.Bool.{Bool, true, false, ◌&&◌, and-false}
use mathlib.Core.List.{List, [], ◌∷◌}
use Prim.Native.Nat.{ℕ, zero, suc, ◌+◌, ◌≤◌, ◌<◌}
use native.Mathlib.Nat.{le_of_suc-le-suc}
use native.Mathlib.Numerals.{add-one}
use native.Mathlib.Omega.{arith}
use lib.Dec.{leb}
use lib.ListN.{length, get_or, take}
use lib.Seq.{slice, slice_empty, slice-cons}
use borrow.Author.Tests.{le-leb, lt-leb, leb-true}
use Rattle.num_text.specs.Number.{all_of}
use Rattle.model.specs.declared.Spot.{Spot}
use Rattle.model.specs.Meaning.{blank_spot}
use Rattle.text_grammar.proofs.Lacks.{and_left, and_right}
use Rattle.placement.specs.Corners.{CornersWithin}
use Rattle.measure_tests.specs.Positions.{in_range}

-- what the loop has left to test
module _ (s : List Spot) (n : ℕ) where
  abbrev pub Left : ℕ → Type 0
  Left i = in_range (take n s) ≡ in_range (slice i n s)

-- positions that pass are near
pub in_range_near : (ps : List Spot) → true ≡ in_range ps → CornersWithin ps
unfolding all_of
in_range_near [] e = record { x = λ i h. absurd (omega arith); y = λ i h. absurd (omega arith) }
in_range_near (p ∷ ps) e = record { x = by_x_law (in_range_near ps rest).x; y = by_y_law (in_range_near ps rest).y }
  where
    x : Bool
    x = leb 0 p.x && leb p.x 1024

    y : Bool
    y = leb 0 p.y && leb p.y 1024

    first : (x && y) ≡ true
    first = and_left (x && y) (in_range ps) (sym e)

    rest : true ≡ in_range ps
    rest = sym (and_right (x && y) (in_range ps) (sym e))

    by_x_law : ((i : ℕ) → i < length ps → (get_or ps i blank_spot).x ≤ 1024) → (i : ℕ) → i < suc (length ps) → (get_or (p ∷ ps) i blank_spot).x ≤ 1024
    by_x_law more zero h = leb-true p.x 1024 (and_right (leb 0 p.x) (leb p.x 1024) (and_left x y first))
    by_x_law more (suc i) h = more i (le_of_suc-le-suc h)

    by_y_law : ((i : ℕ) → i < length ps → (get_or ps i blank_spot).y ≤ 1024) → (i : ℕ) → i < suc (length ps) → (get_or (p ∷ ps) i blank_spot).y ≤ 1024
    by_y_law more zero h = leb-true p.y 1024 (and_right (leb 0 p.y) (leb p.y 1024) (and_right x y first))
    by_y_law more (suc i) h = more i (le_of_suc-le-suc h)
