-- A list of positions read one by one, as far as 8: the same measure as that of the list itself. A list of more than 8 is refused with 13 by every chip that is accepted, however long it is.
use mathlib.Core.Path.{◌≡◌, refl, sym, ap, ◌∙◌}
use mathlib.Core.List.{List, [], ◌∷◌}
use Prim.Native.Nat.{ℕ, zero, suc, ◌≤◌, ◌<◌}
use native.Mathlib.Decide.{dec_le}
use native.Mathlib.Nat.{le_of_suc-le-suc}
use native.Mathlib.Omega.{arith}
use lib.ListN.{length, get_or, take, length-append}
use borrow.Author.Tests.{ne_eqb}
use Rattle.model.specs.declared.Spot.{Spot}
use Rattle.model.specs.Meaning.{Chip, first_of, blank_spot}
use Rattle.model.proofs.FirstOf.{first_take, first_past}
use Rattle.refusals.specs.Tests.{first_failed}
use Rattle.text_grammar.specs.Reading.{Reading, accepted, refused as not_read}
use Rattle.chip_text.specs.Text.{read_chip, chip_text}
use Rattle.chip_text.proofs.Accepted.{accepted_valid}
use Rattle.chip_text.proofs.TextRead.{text_read}
use Rattle.measure_held.specs.Answer.{Measure, refused}
use Rattle.measure.specs.Measuring.{after_reading, measure_passed, measure_positions}

-- the k positions from i on
abbrev reads : List Spot → ℕ → ℕ → List Spot
reads ys i zero = []
reads ys i (suc k) = get_or ys i blank_spot ∷ reads ys (suc i) k

reads_rest : (a : Spot) (ys : List Spot) (i k : ℕ) → reads (a ∷ ys) (suc i) k ≡ reads ys i k
reads_rest a ys i zero = refl
reads_rest a ys i (suc k) = ap (λ (t : List Spot). get_or ys i blank_spot ∷ t) (reads_rest a ys (suc i) k)

reads_all : (ys : List Spot) (k : ℕ) → length ys ≤ k → first_of blank_spot (length ys) (reads ys 0 k) ≡ ys
unfolding first_of
reads_all [] k h = refl
reads_all (a ∷ ys) zero h = absurd (omega arith)
reads_all (a ∷ ys) (suc k) h = rw (reads_rest a ys 0 k, reads_all ys k (le_of_suc-le-suc h))

length_reads : (ys : List Spot) (i k : ℕ) → length (reads ys i k) ≡ k
length_reads ys i zero = refl
length_reads ys i (suc k) = ap suc (length_reads ys (suc i) k)

module _ (c : Chip) where
  too_long : (d : Chip) → read_chip (chip_text c) ≡ accepted d → (ps : List Spot) → 8 < length ps → measure_passed c ps ≡ refused 13 0
  unfolding measure_passed first_failed
  too_long d e ps h =
      let few = (accepted_valid (chip_text c) d e).mac_count in
      rw (ne_eqb (length ps) (length c.macs) (λ q. absurd (omega (arith, ap {B = ℕ} (λ (b : Chip). length b.macs) (text_read c d e)))))

  both_long : (ps qs : List Spot) → 8 < length ps → 8 < length qs → measure_positions c ps ≡ measure_positions c qs
  both_long ps qs h k = by (read_chip (chip_text c)) refl
    where
      by : (r : Reading Chip) → read_chip (chip_text c) ≡ r → after_reading r (measure_passed c ps) ≡ after_reading r (measure_passed c qs)
      by (accepted d) e = too_long d e ps h ∙ sym (too_long d e qs k)
      by (not_read n l) e = refl

  list_measured : (ys : List Spot) → measure_positions c (first_of blank_spot (length ys) (reads ys 0 8)) ≡ measure_positions c ys
  list_measured ys = by (dec_le (length ys) 8)
    where
      by : Dec (length ys ≤ 8) → measure_positions c (first_of blank_spot (length ys) (reads ys 0 8)) ≡ measure_positions c ys
      by (yes h) = ap (measure_positions c) (reads_all ys 8 h)
      by (no n) = both_long (first_of blank_spot (length ys) (reads ys 0 8)) ys (rw (first_past blank_spot (length ys) (reads ys 0 8) (omega arith), length-append) (omega arith)) (omega arith)

  -- the eight positions as they were read
  pub eight_measured : (ys : List Spot) (m : Measure) (p0 p1 p2 p3 p4 p5 p6 p7 : Spot)
      → p0 ≡ get_or ys 0 blank_spot → p1 ≡ get_or ys 1 blank_spot → p2 ≡ get_or ys 2 blank_spot → p3 ≡ get_or ys 3 blank_spot → p4 ≡ get_or ys 4 blank_spot → p5 ≡ get_or ys 5 blank_spot → p6 ≡ get_or ys 6 blank_spot → p7 ≡ get_or ys 7 blank_spot
      → m ≡ measure_positions c (first_of blank_spot (length ys) (p0 ∷ p1 ∷ p2 ∷ p3 ∷ p4 ∷ p5 ∷ p6 ∷ p7 ∷ [])) → m ≡ measure_positions c ys
  eight_measured ys m p0 p1 p2 p3 p4 p5 p6 p7 e0 e1 e2 e3 e4 e5 e6 e7 e =
      e ∙ (ap (λ (t : List Spot). measure_positions c (first_of blank_spot (length ys) t)) (rw (e0, e1, e2, e3, e4, e5, e6, e7)) ∙ list_measured ys)

-- a count within the array, in the form of the need of `measure_spots`
pub first_measured : (c : Chip) (n : ℕ) (s : List Spot) (m : Measure) → length s ≡ 8 → n ≤ 8 → m ≡ measure_positions c (take n s) → m ≡ measure_positions c (first_of blank_spot n s)
first_measured c n s m l h e = e ∙ ap (measure_positions c) (sym (first_take blank_spot n s (omega arith)))
