-- What measuring answers, in the form of the needs: by what the tests tell, and of positions that they accept.
use Rattle.std.specs.Prelude.{Ok, Err, Result}
use mathlib.Core.Path.{◌≡◌, refl, sym, ap, ◌∙◌}
use mathlib.Core.List.{List}
use Prim.Native.Nat.{ℕ, zero, suc}
use lib.ListN.{length, take}
use Rattle.model.specs.declared.Chip.{Chip as HeldChip}
use Rattle.model.specs.declared.Refusal.{Refusal}
use Rattle.model.specs.declared.Spot.{Spot}
use Rattle.model.specs.Meaning.{Chip, chip_of, first_of, blank_spot}
use Rattle.refusals.specs.Tests.{first_failed, unless_failed}
use Rattle.text_grammar.specs.Reading.{Reading, accepted, refused as not_read}
use Rattle.chip_text.specs.Text.{read_chip, chip_text}
use Rattle.chip_text.specs.Passed.{Passed}
use Rattle.chip_text.proofs.Passing.{Whole}
use Rattle.placement.specs.Legal.{legal}
use Rattle.placement.specs.Length.{wirelength}
use Rattle.placement.specs.Corners.{CornersWithin}
use Rattle.placement.specs.Integers.{legal_z, wirelength_z, integers}
use Rattle.placement.proofs.Integers.{legal_same, length_same}
use Rattle.placement.proofs.LengthBound.{wirelength_bound}
use Rattle.measure_tests.specs.Positions.{measure_tests}
use Rattle.measure_tests.specs.Tested.{tested_by}
use Rattle.measure_tests.proofs.Testing.{chip_is_passed, the_spots, are_near}
use Rattle.measure_held.specs.declared.Measurement.{Measurement}
use Rattle.measure_held.specs.Answer.{Measure, refused, measured, measured_as}
use Rattle.legal.specs.Turn.{legal_held}
use Rattle.measure_held.specs.Held.{length_held, length_in}
use Rattle.measure.specs.Measuring.{after_reading, measure_passed, measure_positions}
use Rattle.measure.proofs.IsLegal.{legal_told}
use Rattle.measure.proofs.HeldNet.{length_whole}

-- ---- positions that the tests accept

its_measure : (c : HeldChip) (s : List Spot) → Passed c → Whole c → CornersWithin (take c.n s) → length s ≡ 8 → measured (legal_held c s) (length_held c s) ≡ measured (legal (chip_of c) (take c.n s)) (wirelength (chip_of c) (take c.n s))
its_measure c s p w near l = rw (
  legal_told c p.fine s w.fixes w.macs l,
  length_whole c p.fine s near w.nets w.pins (wirelength_bound (chip_of c) (take c.n s) p.valid near),
)

-- ---- the answer

-- measured over natural corners is measured over integers
pub measured_same : (c : Chip) (ps : List Spot) → measured (legal c ps) (wirelength c ps) ≡ measured (legal_z c (integers ps)) (wirelength_z c (integers ps))
measured_same c ps = rw (legal_same c ps, length_same c ps)

-- by what the tests tell
abbrev said : Result (Unit {0}) Refusal → Measure → Measure
said (Err f) more = refused f.no f.line
said (Ok _) more = more

said_answer : (r : Reading Chip) (k : ℕ) (more : Measure) → said (tested_by r k) more ≡ after_reading r (unless_failed refused k more)
said_answer (accepted c) zero more = refl
said_answer (accepted c) (suc k) more = refl
said_answer (not_read n l) k more = refl

module _ (c : HeldChip) (s : List Spot) (count : ℕ) (t : Result (Unit {0}) Refusal) (q : t ≡ tested_by (read_chip (chip_text (chip_of c))) (first_failed (measure_tests (chip_of c) (first_of blank_spot count s)))) where
  abbrev first : ℕ
  first = first_failed (measure_tests (chip_of c) (first_of blank_spot count s))

  abbrev its : Measure
  its = measured (legal_z (chip_of c) (integers (first_of blank_spot count s))) (wirelength_z (chip_of c) (integers (first_of blank_spot count s)))

  answered : (u : Result (Unit {0}) Refusal) → t ≡ u → said u its ≡ measure_positions (chip_of c) (first_of blank_spot count s)
  unfolding measure_passed
  answered u z = ap (λ (v : Result (Unit {0}) Refusal). said v its) (sym z ∙ q) ∙ said_answer (read_chip (chip_text (chip_of c))) first its

  pub is_refused : (f : Refusal) → t ≡ Err f → refused f.no f.line ≡ measure_positions (chip_of c) (first_of blank_spot count s)
  is_refused f z = answered (Err f) z

  pub is_measured : Whole c → length s ≡ 8 → t ≡ Ok tt → (m : Measure) → m ≡ measured (legal_held c s) (length_held c s) → m ≡ measure_positions (chip_of c) (first_of blank_spot count s)
  is_measured w l z m e =
      e ∙ its_measure c s (chip_is_passed c w s l count t q z) w (are_near c w s l count t q z) l
      ∙ ap (λ (ps : List Spot). measured (legal (chip_of c) ps) (wirelength (chip_of c) ps)) (sym (the_spots c w s l count t q z))
      ∙ measured_same (chip_of c) (first_of blank_spot count s)
      ∙ answered (Ok tt) z

-- ---- the length in an answer

pub length_told : (m : Measure) (a : Result Measurement Refusal) → measured_as a ≡ m → (l : ℕ) → l ≡ length_in (measured_as a) → l ≡ length_in m
length_told m a e l q = rw (q, e)
