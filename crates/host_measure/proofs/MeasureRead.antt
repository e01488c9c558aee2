-- From the reading of a chip text to what measuring answers, in the form of the needs.
use Prim.Native.Nat.{ℕ, ◌+◌, ◌*◌}
use mathlib.Core.Path.{◌≡◌, sym, ap, ◌∙◌}
use mathlib.Core.List.{List, [], ◌∷◌}
use native.Mathlib.Omega.{arith}
use lib.ListN.{length, take}
use lib.Dec.{eqb}
use borrow.Author.Tests.{eqb-true}
use Rattle.model.specs.declared.Chip.{Chip as HeldChip}
use Rattle.model.specs.declared.Refusal.{Refusal}
use Rattle.model.specs.declared.Spot.{Spot}
use Rattle.model.specs.Meaning.{Chip, chip_of, first_of, blank_spot}
use Rattle.model.proofs.FirstOf.{first_take}
use Rattle.refusals.specs.Tests.{test, first_failed}
use Rattle.refusals.proofs.FirstFailed.{first_passes, number_refused, number_none}
use Rattle.text_grammar.specs.Reading.{Reading, accepted, refused}
use Rattle.chip_text.specs.Text.{read_chip}
use Rattle.chip_text.specs.Passed.{Passed}
use Rattle.measure_held.specs.Answer.{Measure, refused as not_measured}
use Rattle.measure.specs.Measuring.{after_reading, measure_passed, measure_positions}
use Rattle.host_codes.specs.declared.Code.{Code}
use Rattle.host_codes.specs.Code.{code, refused as refused_code, of_measure}
use Rattle.host_measure.specs.MeasureText.{corners_of, measure_read, measure_text}

module _ (c : HeldChip) (ok : Passed c) (list : List ℕ) (no : ℕ) (q : no ≡ first_failed (test 13 (eqb (length list) (2 * c.n)) ∷ [])) where
  -- the number of the chip's macros
  here : no ≡ first_failed (test 13 (eqb (length list) (2 * length (chip_of c).macs)) ∷ [])
  here = q ∙ ap (λ (m : ℕ). first_failed (test 13 (eqb (length list) (2 * m)) ∷ [])) (sym ok.macs)

  -- not two numbers for each macro
  pub wrong_count : (no ≡ 0 → ⊥) → not_measured no 0 ≡ measure_read (accepted (chip_of c)) list
  wrong_count h = rw (← here) (number_refused not_measured (measure_passed (chip_of c) (corners_of list)) no h)

  pub two_each : no ≡ 0 → length list ≡ c.n + c.n
  two_each z = let e = eqb-true (length list) (2 * c.n) (first_passes 12 [] (eqb (length list) (2 * c.n)) (sym q ∙ z)) in omega arith

  pub right_count : no ≡ 0 → (spots : List Spot) → length spots ≡ 8 → take c.n spots ≡ corners_of list → (m : Measure) → m ≡ measure_positions (chip_of c) (first_of blank_spot c.n spots) → m ≡ measure_read (accepted (chip_of c)) list
  right_count z spots l are m e =
      let few = ok.fine.mac_count in
      e ∙ (ap (λ (t : Reading Chip). after_reading t (measure_passed (chip_of c) (first_of blank_spot c.n spots))) (sym ok.read)
      ∙ (ap (measure_passed (chip_of c)) (first_take blank_spot c.n spots (omega arith) ∙ are)
      ∙ rw (← here) (number_none not_measured (measure_passed (chip_of c) (corners_of list)) no z)))

module _ (text list : List ℕ) where
  pub measure_read_law : (c : HeldChip) (m : Measure) (r : Code) → read_chip text ≡ accepted (chip_of c) → m ≡ measure_read (accepted (chip_of c)) list → r ≡ code (of_measure m) → r ≡ code (of_measure (measure_text text list))
  measure_read_law c m r e h q = q ∙ (ap (λ (t : Measure). code (of_measure t)) h ∙ ap (λ (t : Reading Chip). code (of_measure (measure_read t list))) (sym e))
