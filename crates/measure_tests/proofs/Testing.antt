-- What the tests of positions tell, and what is known where all are passed.
use Rattle.std.specs.Prelude.{Ok, Err, Result}
use Prim.Native.Nat.{ℕ, zero, suc}
use mathlib.Core.Path.{◌≡◌, refl, sym, ap, ◌∙◌}
use mathlib.Core.Bool.{Bool, true, false, false≢true}
use mathlib.Core.List.{List}
use lib.ListN.{length, take}
use borrow.Author.Tests.{eqb-true}
use Rattle.model.specs.declared.Chip.{Chip as HeldChip}
use Rattle.model.specs.declared.Refusal.{Refusal}
use Rattle.model.specs.declared.Spot.{Spot}
use Rattle.model.specs.Meaning.{Chip, chip_of, first_of, blank_spot}
use Rattle.refusals.specs.Tests.{first_failed}
use Rattle.refusals.proofs.FirstFailed.{first_passes, rest_passes, number_refused, number_none}
use Rattle.text_grammar.specs.Reading.{Reading, accepted, refused}
use Rattle.text_grammar.specs.Writing.{tested_as}
use Rattle.chip_text.specs.Text.{read_chip, chip_text}
use Rattle.chip_text.specs.Passed.{Passed}
use Rattle.chip_text.proofs.TextRead.{text_read}
use Rattle.chip_text.proofs.Passing.{Whole, passed_by}
use Rattle.placement.specs.Corners.{CornersWithin}
use Rattle.measure_tests.specs.Positions.{in_range, measure_tests}
use Rattle.measure_tests.specs.Tested.{refused_as, tested_by}
use Rattle.measure_tests.proofs.Faults.{counted, its_spots}
use Rattle.measure_tests.proofs.Ranges.{in_range_near}

-- ---- in the form of the needs

module _ (C : Chip) (no first : ℕ) (q : no ≡ first) where
  pub tells_refused : (no ≡ 0 → ⊥) → Err (record { no = no; line = 0 }) ≡ tested_by (accepted C) first
  tells_refused h = rw (← q) (number_refused refused_as (Ok tt) no h)

  pub tells_passed : no ≡ 0 → Ok tt ≡ tested_by (accepted C) first
  tells_passed z = rw (← q) (number_none refused_as (Ok tt) no z)

module _ (C : Chip) (t : Result (Unit {0}) Refusal) (e : tested_as C t ≡ read_chip (chip_text C)) (first : ℕ) where
  pub chip_refused : (f : Refusal) → t ≡ Err f → Err f ≡ tested_by (read_chip (chip_text C)) first
  chip_refused f q = rw (← e, q)

  pub chip_passed : t ≡ Ok tt → (r : Result (Unit {0}) Refusal) → r ≡ tested_by (accepted C) first → r ≡ tested_by (read_chip (chip_text C)) first
  chip_passed q r h = rw (← e, q) h

-- ---- where all are passed

abbrev is_passed : Result (Unit {0}) Refusal → Bool
is_passed (Err f) = false
is_passed (Ok _) = true

passed_number : {A : Type 0} (r : Reading A) (k : ℕ) → tested_by r k ≡ Ok tt → k ≡ 0
passed_number (accepted c) zero e = refl
passed_number (accepted c) (suc k) e = absurd (false≢true (ap is_passed e))
passed_number (refused n l) k e = absurd (false≢true (ap is_passed e))

passed_read : (C : Chip) (r : Reading Chip) (k : ℕ) → read_chip (chip_text C) ≡ r → tested_by r k ≡ Ok tt → accepted C ≡ r
passed_read C (accepted d) k q e = ap accepted (sym (text_read C d q))
passed_read C (refused n l) k q e = absurd (false≢true (ap is_passed e))

module _ (c : HeldChip) (w : Whole c) (s : List Spot) (l : length s ≡ 8) (count : ℕ) (t : Result (Unit {0}) Refusal) (q : t ≡ tested_by (read_chip (chip_text (chip_of c))) (first_failed (measure_tests (chip_of c) (first_of blank_spot count s)))) (z : t ≡ Ok tt) where
  pub chip_is_passed : Passed c
  chip_is_passed = passed_by c w (passed_read (chip_of c) (read_chip (chip_text (chip_of c))) _ refl (sym q ∙ z))

  none : first_failed (measure_tests (chip_of c) (first_of blank_spot count s)) ≡ 0
  none = passed_number (read_chip (chip_text (chip_of c))) _ (sym q ∙ z)

  pub the_spots : first_of blank_spot count s ≡ take c.n s
  the_spots = its_spots c chip_is_passed s l count (counted c chip_is_passed s l count (eqb-true _ _ (first_passes 12 _ _ none)))

  pub are_near : CornersWithin (take c.n s)
  are_near = in_range_near (take c.n s) (sym (first_passes 13 _ _ (rest_passes 12 _ _ none)) ∙ ap in_range the_spots)
