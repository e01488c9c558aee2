-- Both directions solved: their coordinates are the fit, and its measured length is the answer's.
use Rattle.std.specs.Prelude.{Result, Ok, Err, Option, Some, None}
use Prim.Native.Nat.{ℕ, ◌+◌, ◌-◌, ◌≤◌, ◌<◌}
use mathlib.Core.Path.{◌≡◌, sym, ap, subst, ◌∙◌}
use mathlib.Core.Bool.{true}
use mathlib.Core.List.{List, ◌++◌, map}
use native.Mathlib.Decide.{dec_lt}
use native.Mathlib.Omega.{arith}
use lib.ListN.{length, get_or, take, replicate}
use lib.Seq.{length-take-le}
use borrow.Author.Tests.{eq-eqb}
use Rattle.model.specs.declared.Chip.{Chip as HeldChip}
use Rattle.model.specs.declared.Spot.{Spot}
use Rattle.model.specs.Meaning.{Chip, chip_of, blank_spot, first_of}
use Rattle.model.specs.Limits.{most_macs}
use Rattle.model.specs.Held.{filled}
use Rattle.model.proofs.FirstOf.{first_take}
use Rattle.refusals.specs.Tests.{first_failed}
use Rattle.chip_text.specs.Valid.{Valid}
use Rattle.placement.specs.Legal.{legal}
use Rattle.placement.specs.Length.{wirelength}
use Rattle.placement.specs.Letters.{Letter}
use Rattle.placement.specs.Least.{found}
use Rattle.axis_bounds.specs.Axis.{Keeps}
use Rattle.axis_bounds.specs.Answer.{LeastOn}
use Rattle.fit_slots.specs.declared.Direction.{Direction}
use Rattle.fit_slots.specs.declared.Direction.TheVariants.{Horizontal as horizontal, Vertical as vertical}
use Rattle.fit_slots.specs.Slots.{mac_side}
use Rattle.fit_slots.specs.Axes.{axis_for, corners_on}
use Rattle.fit_slots.specs.Fit.{placed, letters_of, slot_count, best_fit}
use Rattle.fit_slots.proofs.Fineness.{die_most}
use Rattle.fit_slots.proofs.Lengths.{lengths_split}
use Rattle.fit_slots.proofs.Fitting.{both_fit}
use Rattle.measure_tests.specs.Positions.{in_range}
use Rattle.measure_held.specs.Answer.{measured}
use Rattle.measure_held.specs.Held.{length_in}
use Rattle.measure.specs.Measuring.{measure_passed, measure_positions}
use Rattle.measure.proofs.Answers.{measured_same}
use Rattle.fit_axes.specs.Axes.{SolvedBy}
use Rattle.model.specs.Corners.{spots_of}
use Rattle.model.proofs.Corners.{spots_length, take_spots, spots_x, spots_y}
use Rattle.fit_tests.specs.Entry.{Asking, fitting}
use Rattle.fit.specs.Answer.{answer_for}
use Rattle.fit.proofs.Asked.{el}
use Rattle.fit.proofs.Corners.{past, spots_in_range, spots_padded}

-- a coordinate that keeps the die is within 0..1,024
coordinate_most : (d : Direction) (C : Chip) (ls : List Letter) → Valid C → (z : List ℕ) → Keeps (axis_for d C ls) z → (i : ℕ) → get_or z i 0 ≤ 1024
unfolding axis_for
coordinate_most d C ls v z k i = by (dec_lt i (length (map (mac_side d) C.macs)))
  where
    by : Dec (i < length (map (mac_side d) C.macs)) → get_or z i 0 ≤ 1024
    by (yes l) = let a = k.size i l in let b = die_most d C v in omega arith
    by (no l) = let e = past z i (let q = k.long in omega arith) in omega arith

module _ (c : HeldChip) (s : List ℕ) (m : ℕ) (ask : Asking c s m) (ax ay fx fy : List ℕ) (sx : SolvedBy c s horizontal ax fx) (sy : SolvedBy c s vertical ay fy) where
  abbrev C : Chip
  C = chip_of c

  abbrev ls : List Letter
  ls = letters_of s

  v : Valid C
  v = ask.passed.valid

  abbrev zx : List ℕ
  zx = take c.n ax

  abbrev zy : List ℕ
  zy = take c.n ay

  wx : length ax ≡ 8
  wx = sx.long

  wy : length ay ≡ 8
  wy = sy.long

  few : c.n ≤ 8
  few = ask.passed.fine.mac_count

  long_x : length zx ≡ c.n
  long_x = length-take-le c.n ax (let a = few in let l = wx in omega arith)

  long_y : length zy ≡ c.n
  long_y = length-take-le c.n ay (let a = few in let l = wy in omega arith)

  as_long : length zx ≡ length zy
  as_long = long_x ∙ sym long_y

  abbrev pub ps : List Spot
  ps = spots_of zx zy

  long_ps : length ps ≡ length C.macs
  long_ps = spots_length zx zy as_long ∙ long_x ∙ sym ask.passed.macs

  -- the coordinates of a direction
  abbrev pub on : Direction → List ℕ
  on horizontal = zx
  on vertical = zy

  pub corners_on_law : (d : Direction) → corners_on d ps ≡ on d
  corners_on_law horizontal = spots_x zx zy as_long
  corners_on_law vertical = spots_y zx zy as_long

  solved_least : (d : Direction) → LeastOn (axis_for d C ls) (on d)
  solved_least horizontal = sx.solved.least
  solved_least vertical = sy.solved.least

  pub the_fitting : fitting c s ≡ placed (wirelength C ps) (slot_count C) ps
  the_fitting =
      ap (best_fit (slot_count C))
      (both_fit C ls v (el c s m ask) ps long_ps (λ d. subst (λ (z : List ℕ). LeastOn (axis_for d C ls) z) (sym (corners_on_law d)) (solved_least d))
      ∙ ap (λ (l : ℕ). found l ps) (sym (lengths_split C ls ps v)))

  -- ---- the answer

  abbrev spots : List Spot
  spots = spots_of ax ay

  first_spots : first_of blank_spot c.n spots ≡ ps
  first_spots = first_take blank_spot c.n spots (let e = spots_length ax ay (wx ∙ sym wy) in let a = few in let l = wx in omega arith) ∙ take_spots c.n ax ay

  in_range_law : in_range ps ≡ true
  in_range_law = spots_in_range zx zy (coordinate_most horizontal C ls v zx sx.solved.least.keeps) (coordinate_most vertical C ls v zy sy.solved.least.keeps)

  is_measured : measure_positions C (first_of blank_spot c.n spots) ≡ measured (legal C ps) (wirelength C ps)
  unfolding measure_passed first_failed
  is_measured = rw (first_spots, ← ask.passed.read, eq-eqb (length ps) (length C.macs) long_ps, in_range_law) (sym (measured_same C ps))

  filled_spots : spots ≡ filled most_macs blank_spot ps
  filled_spots =
      spots_padded c.n ax ay (let a = few in let l = wx in omega arith) (wx ∙ sym wy) sx.rest sy.rest
      ∙ ap (λ (k : ℕ). ps ++ replicate k blank_spot) (let e = long_ps in let l = wx in let f = ask.passed.macs in let q : length ax - c.n ≡ 8 - length ps = omega arith in q)

  -- from the measured length
  pub placed_answer : (those : List Spot) → those ≡ spots → (l : ℕ) → l ≡ length_in (measure_positions C (first_of blank_spot c.n those)) → record { outcome = Ok (Some (record { length = l; slots = m + m })); spots = those } ≡ answer_for (fitting c s)
  placed_answer those es l e =
      let w : l ≡ wirelength C ps = e ∙ ap (λ (t : List Spot). length_in (measure_positions C (first_of blank_spot c.n t))) es ∙ ap length_in is_measured in
      rw (w, ask.slots.both, es, filled_spots, the_fitting)
