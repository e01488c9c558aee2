-- A chip and letters that pass every test: their counts, and the fit of a direction without coordinates.
use Prim.Native.Nat.{ℕ, ◌≤◌}
use mathlib.Core.Path.{◌≡◌, sym, ap, ◌∙◌}
use mathlib.Core.List.{List}
use native.Mathlib.Omega.{arith}
use lib.ListN.{length, get_or, length-map}
use Rattle.model.specs.declared.Chip.{Chip as HeldChip}
use Rattle.model.specs.Meaning.{Chip, chip_of}
use Rattle.placement.specs.Letters.{Letter}
use Rattle.axis_bounds.specs.Listed.{listed}
use Rattle.axis_bounds.proofs.Limits.{listed_tails, listed_heads}
use Rattle.fit_slots.specs.declared.Direction.{Direction}
use Rattle.fit_slots.specs.Slots.{couples, slots_on}
use Rattle.fit_slots.specs.Axes.{axis_for}
use Rattle.fit_slots.specs.Fit.{no_fit, letters_of, slot_count, best_fit}
use Rattle.fit_slots.proofs.Counting.{letters_count, listed_count, slots_count}
use Rattle.fit_slots.proofs.Fineness.{axis_fine}
use Rattle.fit_slots.proofs.Fitting.{neither_fits}
use Rattle.fit_slots.proofs.Whole.{Ended}
use Rattle.fit_axes.specs.Axes.{Taken, UnsolvedBy}
use Rattle.fit_tests.specs.Entry.{Asking, fitting}

module _ (c : HeldChip) (s : List ℕ) (m : ℕ) (ask : Asking c s m) where
  abbrev C : Chip
  C = chip_of c

  abbrev ls : List Letter
  ls = letters_of s

  pub taken : Taken c s
  taken = record { fine = ask.passed.fine; valid = ask.passed.valid; whole = ask.whole; letters = ask.letters }

  pub el : length ls ≡ length (couples C)
  el = length-map s _ ∙ ask.letters ∙ sym (letters_count C)

  pub ended : (d : Direction) → Ended (axis_for d C ls)
  ended d = let f = axis_fine d C ls ask.passed.valid el in record { tails_in = listed_tails (axis_for d C ls) f; heads_in = listed_heads (axis_for d C ls) f }

  pub each_m : (d : Direction) → length (slots_on d C ls) ≡ m
  each_m d = let e = slots_count C ls el ask.passed.valid d in let t = ask.slots.both in omega arith

  pub past_m : (d : Direction) (f : List ℕ) → ((t : ℕ) → length (listed (axis_for d C ls)) ≤ t → get_or f t 0 ≡ 0) → (t : ℕ) → m ≤ t → get_or f t 0 ≡ 0
  past_m d f z t l = z t (let e = listed_count C ls el d in let q = ask.slots.both in omega arith)

  pub no_fitting : (d : Direction) (f : List ℕ) → UnsolvedBy c s d f → fitting c s ≡ no_fit
  no_fitting d f u = ap (best_fit (slot_count C)) (neither_fits C ls d u.unsolved.none)
