-- The refusal number of writing, searching, placing, printing, measuring and fitting is 1 to 15, so it is never 0 or 255, the two numbers of the C interface that are no refusal.
use Prim.Native.Nat.{ℕ, zero, suc}
use mathlib.Core.Path.{◌≡◌, refl}
use mathlib.Core.Bool.{Bool, true, false, ◌&&◌, cond}
use mathlib.Core.List.{List, [], ◌∷◌}
use native.Mathlib.Omega.{arith}
use lib.Dec.{leb}
use lib.ListN.{length}
use borrow.Author.Tests.{leb-true}
use Rattle.model.specs.declared.Spot.{Spot}
use Rattle.model.specs.Meaning.{Chip, Record}
use Rattle.refusals.specs.Tests.{Test, first_failed, unless_failed}
use Rattle.text_grammar.specs.Reading.{Reading, accepted, refused}
use Rattle.text_grammar.specs.Writing.{not_written, if_room, write_text, write_read}
use Rattle.text_grammar.proofs.Lacks.{and_left, and_right}
use Rattle.chip_text.specs.Text.{read_chip, chip_text, write_chip}
use Rattle.record_text.specs.Text.{read_record, record_text, write_record}
use Rattle.placement.specs.Integers.{legal_z, wirelength_z, integers}
use Rattle.placement.specs.Least.{Best, nothing, found, fit_of, chip_record}
use Rattle.measure_tests.specs.Positions.{measure_tests}
use Rattle.measure_held.specs.Answer.{Measure, measured, refused as not_measured}
use Rattle.measure.specs.Measuring.{after_reading, measure_passed, measure_positions}
use Rattle.fit_slots.specs.Fit.{refused_by, letters_of, slot_count, best_fit, string_for, fit_tests, fit_chip, fit_letters}
use Rattle.search.specs.Place.{record_for, search_chip, place_text}
use Rattle.place_print.specs.Printed.{printed, print_text}
use Rattle.text_grammar.proofs.Numbers.{Numbered}
use Rattle.chip_text.proofs.Numbers.{chip_number}
use Rattle.record_text.proofs.Numbers.{record_number}

-- a number of reading is one of the table
pub wider : (n k : ℕ) → Numbered 10 n → n ≡ k → Numbered 15 k
wider n k h e = let a = h.above in let w = h.within in record { above = omega arith; within = omega arith }

-- ---- what is written

room_told : (b : Bool) (text out : List ℕ) (n l : ℕ) → (if_room b text out).answer ≡ not_written n l → Numbered 15 n
room_told true text out n l e = let z : ◌≡◌ {A = ℕ} 0 1 = cc in absurd (omega arith)
room_told false text out n l e = let k : n ≡ 15 = cc in record { above = omega arith; within = omega arith }

module _ {A : Type 0} where
  -- a reading is refused with a number of reading
  abbrev Reads : Reading A → Type 0
  Reads r = (n l : ℕ) → r ≡ refused n l → Numbered 10 n

  write_told : (r : Reading A) (text out : List ℕ) (n l : ℕ) → Reads r → (write_text r text out).answer ≡ not_written n l → Numbered 15 n
  write_told (accepted a) text out n l h e = room_told (leb (length text) (length out)) text out n l e
  write_told (refused k m) text out n l h e = wider k n (h k m refl) cc

module _ (out : List ℕ) (n l : ℕ) where
  pub write_chip_number : (c : Chip) → (write_chip c out).answer ≡ not_written n l → Numbered 15 n
  write_chip_number c e = write_told (read_chip (chip_text c)) (chip_text c) out n l (chip_number (chip_text c)) e

  pub write_record_number : (r : Record) → (write_record r out).answer ≡ not_written n l → Numbered 15 n
  write_record_number r e = write_told (read_record (record_text r)) (record_text r) out n l (record_number (record_text r)) e

  pub search_number : (c : Chip) → (search_chip c out).answer ≡ not_written n l → Numbered 15 n
  search_number c e = write_told (read_chip (chip_text c)) (record_text (chip_record c)) out n l (chip_number (chip_text c)) e

  -- whatever text belongs to a chip
  pub read_number : (f : Chip → List ℕ) (text : List ℕ) → (write_read f (read_chip text) out).answer ≡ not_written n l → Numbered 15 n
  read_number f text e = by (read_chip text) refl e
    where
      by : (r : Reading Chip) → read_chip text ≡ r → (write_read f r out).answer ≡ not_written n l → Numbered 15 n
      by (accepted c) t q = room_told (leb (length (f c)) (length out)) (f c) out n l q
      by (refused k m) t q = wider k n (chip_number text k m t) cc

  pub place_number : (text : List ℕ) → (place_text text out).answer ≡ not_written n l → Numbered 15 n
  place_number = read_number record_for

  pub print_number : (text : List ℕ) → (print_text text out).answer ≡ not_written n l → Numbered 15 n
  print_number text e = room_told (leb (length (printed text)) (length out)) (printed text) out n l e

-- ---- the tests after reading

-- their numbers are 1 to 15
unfoldable pub tabled : List Test → Bool
tabled [] = true
tabled (t ∷ ts) = (leb 1 t.number && leb t.number 15) && tabled ts

pub first_told : (ts : List Test) → tabled ts ≡ true → (k : ℕ) → first_failed ts ≡ suc k → Numbered 15 (suc k)
unfolding tabled first_failed
first_told [] e k q = absurd (omega arith)
first_told (t ∷ ts) e k q = by t.passes q (first_told ts (and_right (leb 1 t.number && leb t.number 15) (tabled ts) e) k)
  where
    its : (leb 1 t.number && leb t.number 15) ≡ true
    its = and_left (leb 1 t.number && leb t.number 15) (tabled ts) e

    by : (b : Bool) → cond b (first_failed ts) t.number ≡ suc k → (first_failed ts ≡ suc k → Numbered 15 (suc k)) → Numbered 15 (suc k)
    by true f more = more f
    by false f more =
        let a = leb-true 1 t.number (and_left (leb 1 t.number) (leb t.number 15) its) in
        let w = leb-true t.number 15 (and_right (leb 1 t.number) (leb t.number 15) its) in
        record { above = omega arith; within = omega arith }

-- ---- measuring

pub measured_told : (k : ℕ) → ((j : ℕ) → k ≡ suc j → Numbered 15 (suc j)) → (x : Measure) (n l : ℕ) → (x ≡ not_measured n l → Numbered 15 n) → unless_failed not_measured k x ≡ not_measured n l → Numbered 15 n
measured_told zero t x n l h e = h e
measured_told (suc j) t x n l h e = let q : n ≡ suc j = cc in rw q (t j refl)

pub passed_told : (c : Chip) (ps : List Spot) (n l : ℕ) → measure_passed c ps ≡ not_measured n l → Numbered 15 n
unfolding measure_passed tabled
passed_told c ps n l e =
    measured_told (first_failed (measure_tests c ps)) (first_told (measure_tests c ps) refl) (measured (legal_z c (integers ps)) (wirelength_z c (integers ps))) n l
    (λ q. let z : ◌≡◌ {A = ℕ} 0 1 = cc in absurd (omega arith)) e

pub measure_number : (c : Chip) (ps : List Spot) (n l : ℕ) → measure_positions c ps ≡ not_measured n l → Numbered 15 n
measure_number c ps n l e = by (read_chip (chip_text c)) refl e
  where
    by : (r : Reading Chip) → read_chip (chip_text c) ≡ r → after_reading r (measure_passed c ps) ≡ not_measured n l → Numbered 15 n
    by (accepted a) t q = passed_told c ps n l q
    by (refused k m) t q = wider k n (chip_number (chip_text c) k m t) cc

-- ---- the ifRoom

pub fit_told : (k : ℕ) → ((j : ℕ) → k ≡ suc j → Numbered 15 (suc j)) → (slots : ℕ) (b : Best) (n l : ℕ) → unless_failed refused_by k (best_fit slots b) ≡ refused_by n l → Numbered 15 n
fit_told zero t slots nothing n l e = let z : ◌≡◌ {A = ℕ} 0 1 = cc in absurd (omega arith)
fit_told zero t slots (found wl ps) n l e = let z : ◌≡◌ {A = ℕ} 0 1 = cc in absurd (omega arith)
fit_told (suc j) t slots b n l e = let q : n ≡ suc j = cc in rw q (t j refl)

pub fit_number : (c : Chip) (s : List ℕ) (room n l : ℕ) → fit_letters c s room ≡ refused_by n l → Numbered 15 n
unfolding fit_letters tabled
fit_number c s room n l e = by (string_for c s) (read_chip (chip_text c)) refl e (λ a. first_told (fit_tests a (string_for c s) room) refl)
  where
    by : (u : List ℕ) (r : Reading Chip) → read_chip (chip_text c) ≡ r → fit_chip r u room ≡ refused_by n l → ((a : Chip) (j : ℕ) → first_failed (fit_tests a u room) ≡ suc j → Numbered 15 (suc j)) → Numbered 15 n
    by u (accepted a) t q told = fit_told (first_failed (fit_tests a u room)) (told a) (slot_count a) (fit_of a (letters_of u)) n l q
    by u (refused k m) t q told = wider k n (chip_number (chip_text c) k m t) cc
