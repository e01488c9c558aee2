-- Reading the lines of a record's macros one by one: what is left to read after the first i, and each answer.
use mathlib.Core.Path.{◌≡◌, refl, sym, ap, ◌∙◌}
use mathlib.Core.Bool.{Bool, true, false, ◌&&◌}
use mathlib.Core.List.{List, [], ◌∷◌, ◌++◌}
use Prim.Native.Nat.{ℕ, zero, suc, ◌+◌, ◌-◌, ◌≤◌, ◌<◌}
use native.Mathlib.Decide.{dec_lt}
use native.Mathlib.Nat.{sub-zero}
use native.Mathlib.Numerals.{add-one}
use native.Mathlib.Omega.{arith}
use lib.Dec.{leb}
use lib.IntN.{pos}
use lib.ListN.{length, get_or, take, drop, drop_of_length-le}
use lib.Seq.{take-suc, drop-cons, length-take-le}
use borrow.Author.Tests.{lt-ltb, le-ltb, le-leb, lt-leb, eq-eqb}
use Rattle.model.specs.declared.Spot.{Spot}
use Rattle.model.specs.Meaning.{Record, least, first_of, blank_spot}
use Rattle.model.proofs.FirstOf.{first_take}
use Rattle.model.specs.Step.{Step, next, fault, check, on_next}
use Rattle.text_grammar.specs.Line.{number}
use Rattle.text_grammar.specs.Words.{same, is_in}
use Rattle.text_grammar.specs.Reading.{Reading, accepted, refused, Last, after, onward, part_read}
use Rattle.text_grammar.proofs.FieldsText.{valued, judged}
use Rattle.text_grammar.proofs.Items.{item_step, run_items}
use Rattle.text_grammar.specs.Steps.{need}
use Rattle.record_text.specs.declared.RecordWord.{RecordWord}
use Rattle.record_text.specs.declared.RecordWord.TheVariants as word
use Rattle.record_text.specs.Words.{record_words}
use Rattle.record_text.specs.Kind.{Part, followers, record_kind}
use Rattle.record_text.specs.Text.{done_item, at_item, at_items, record_items}
use Rattle.record_text.proofs.ItemsRun.{lines_run}
use Rattle.record_test.specs.Parts.{in_corners, spot_fault, lines_read}

-- the word of the line before macro i + 1
abbrev pub last_of : ℕ → Last RecordWord
last_of zero = after word.Least
last_of (suc i) = after word.At

at_follows : (i : ℕ) → is_in record_words word.At (followers (last_of i)) ≡ true
unfolding is_in same
at_follows zero = refl
at_follows (suc i) = refl

pub done_follows : (i : ℕ) → is_in record_words word.Done (followers (last_of i)) ≡ true
unfolding is_in same
done_follows zero = refl
done_follows (suc i) = refl

-- what a fault found leads to; 0 is none
abbrev step_by : ℕ → Part → Step Part
step_by zero s = next s
step_by (suc n) s = fault (suc n)

abbrev found_by : ℕ → ℕ → Reading Record → Reading Record
found_by zero line more = more
found_by (suc n) line more = refused (suc n) line

-- the range test that a macro in turn leaves open
abbrev pub spot_tests : Spot → ℕ
spot_tests p = need (in_corners p) 4 0

module _ (wl i : ℕ) (ps : List Spot) (p : Spot) (l : length ps ≡ i) where
  abbrev before : Part
  before = record { last = last_of i; result = least wl ps }

  abbrev next_part : Part
  next_part = record { last = after word.At; result = least wl (ps ++ (p ∷ [])) }

  pub spot_step : i < 8 → item_step record_kind before (at_item (suc i) p) ≡ step_by (spot_tests p) next_part
  unfolding item_step judged
  spot_step h =
      rw (at_follows i, l, lt-ltb i 8 h, le-leb 1 (suc i) (omega arith), le-leb 0 p.x (omega arith), le-leb 0 p.y (omega arith))
      (by (leb p.x 1024) (leb p.y 1024))
    where
      by : (x y : Bool) → on_next (valued (check true 4 (next (number (pos (suc i))))) (valued (check x 4 (next (number (pos p.x)))) (valued (check y 4 (next (number (pos p.y)))) (next [])))) (record_kind.add before word.At) ≡ step_by (need (x && y) 4 0) next_part
      by true true = rw (l, eq-eqb (suc i) (suc i) refl)
      by true false = refl
      by false y = refl

  over_step : 8 ≤ i → item_step record_kind before (at_item (suc i) p) ≡ fault 6
  unfolding item_step
  over_step h = rw (at_follows i, l, le-ltb i 8 h)

module _ (wl : ℕ) (s : List Spot) where
  -- the lines from macro i + 1 on, where n macros are left and those before it have passed
  unfoldable pub read_from : ℕ → ℕ → Reading Record
  read_from i n = part_read (λ (s : Part). s.result) (run_items record_kind (record { last = last_of i; result = least wl (take i s) }) (suc (suc i)) (at_items (suc i) (first_of blank_spot n (drop i s)) ++ (done_item ∷ [])))

  read_end : (i : ℕ) → read_from i 0 ≡ accepted (least wl (take i s))
  unfolding read_from at_items first_of run_items item_step same judged
  read_end i = rw (done_follows i)

  module _ (l : length s ≡ 8) (i n : ℕ) where
    read_next : i ≤ 8 → read_from i (suc n) ≡ found_by (spot_fault s i) (suc (suc i)) (read_from (suc i) n)
    unfolding read_from at_items first_of run_items
    read_next h = by (dec_lt i 8)
      where
        p : Spot
        p = get_or s i blank_spot

        held : length (take i s) ≡ i
        held = length-take-le i s (omega arith)

        found : (a line : ℕ) (t : Part) (more : Part → Reading Part) → part_read (λ (s : Part). s.result) (onward (step_by a t) line more) ≡ found_by a line (part_read (λ (s : Part). s.result) (more t))
        found zero line t more = refl
        found (suc a) line t more = refl

        by : Dec (i < 8) → read_from i (suc n) ≡ found_by (spot_fault s i) (suc (suc i)) (read_from (suc i) n)
        by (yes g) = rw (drop-cons s i blank_spot (omega arith), spot_step wl i (take i s) p held g, take-suc s i blank_spot (omega arith), lt-ltb i 8 g) (found (spot_tests p) (suc (suc i)) _ _)
        by (no g) = rw (drop_of_length-le s {i = i} (omega arith), over_step wl i (take i s) blank_spot held (omega arith), le-ltb i 8 (omega arith))

abbrev record_at : ℕ → ℕ → List Spot → Record
record_at wl n s = least wl (first_of blank_spot n s)

module _ (wl n : ℕ) (s : List Spot) where
  abbrev pub LeftFrom : ℕ → Type 0
  LeftFrom i = lines_read (record_at wl n s) ≡ read_from wl s i (n - i)

  pub length_over : 589824000 < wl → refused 4 1 ≡ lines_read (record_at wl n s)
  unfolding lines_read record_items run_items item_step is_in same judged
  length_over h = rw (lines_run (record_at wl n s), lt-leb wl 589824000 h, le-leb 0 wl (omega arith))

  pub length_passed : wl ≤ 589824000 → LeftFrom 0
  unfolding lines_read record_items run_items item_step is_in same judged read_from
  length_passed h = rw (lines_run (record_at wl n s), le-leb wl 589824000 h, le-leb 0 wl (omega arith), sub-zero)

  module _ (l : length s ≡ 8) (i : ℕ) (h : i ≤ 8) (left : LeftFrom i) where
    pub all_passed : i ≤ n → n ≤ i → accepted (record_at wl n s) ≡ lines_read (record_at wl n s)
    all_passed f g = let e : i ≡ n = omega arith in rw (left, ← e, (let z : i - i ≡ 0 = omega arith in z), read_end wl s i, first_take blank_spot i s (omega arith))

    module _ (g : i < n) (a : ℕ) (e : a ≡ spot_fault s i) where
      next_read : lines_read (record_at wl n s) ≡ found_by a (suc (suc i)) (read_from wl s (suc i) (n - suc i))
      next_read = let q : n - i ≡ suc (n - suc i) = omega arith in rw (left, q, e) (read_next wl s l i (n - suc i) h)

      pub spot_refused : (a ≡ 0 → ⊥) → refused a (i + 2) ≡ lines_read (record_at wl n s)
      spot_refused z = by a z ∙ sym next_read
        where
          by : (b : ℕ) → (b ≡ 0 → ⊥) → refused b (i + 2) ≡ found_by b (suc (suc i)) (read_from wl s (suc i) (n - suc i))
          by zero y = absurd (y refl)
          by (suc b) y = ap (refused (suc b)) (omega arith)

      pub spot_passed : a ≡ 0 → LeftFrom (i + 1)
      spot_passed z = next_read ∙ rw (z, add-one)

-- a spot without a fault is one of 8
pub one_more : (s : List Spot) (i a : ℕ) → a ≡ spot_fault s i → a ≡ 0 → i + 1 ≤ 8
one_more s i a e z = by (dec_lt i 8)
  where
    by : Dec (i < 8) → i + 1 ≤ 8
    by (yes h) = omega arith
    by (no h) = let q : spot_fault s i ≡ 6 = rw (le-ltb i 8 (omega arith)) in absurd (omega arith)
