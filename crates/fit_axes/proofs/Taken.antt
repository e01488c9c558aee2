-- A chip whose test is passed, with one letter for each pair: its macros, fixes, pairs and letters.
use Prim.Native.Nat.{ℕ, ◌≤◌}
use mathlib.Core.Path.{◌≡◌, sym, ap, ◌∙◌}
use mathlib.Core.List.{List}
use native.Mathlib.Omega.{arith}
use lib.ListN.{length, take}
use lib.Seq.{length-take-le}
use Rattle.model.specs.declared.Chip.{Chip as HeldChip}
use Rattle.model.specs.Meaning.{blank_fix, blank_mac, chip_of}
use Rattle.model.proofs.FirstOf.{first_take}
use Rattle.fit_slots.specs.Slots.{couples_of, couples}
use Rattle.fit_slots.proofs.Counting.{letters_count}
use Rattle.fit_pairs.proofs.Places.{few_pairs}
use Rattle.fit_axes.specs.Axes.{Taken}

module _ (c : HeldChip) (s : List ℕ) (k : Taken c s) where
  pub macs_taken : (chip_of c).macs ≡ take c.n c.macs
  unfolding chip_of
  macs_taken = let q = k.fine.mac_count in let l = k.whole.macs in first_take blank_mac c.n c.macs (omega arith)

  fixes_taken : (chip_of c).fixes ≡ take c.k c.fixes
  unfolding chip_of
  fixes_taken = let q = k.fine.fix_count in let l = k.whole.fixes in first_take blank_fix c.k c.fixes (omega arith)

  pub couples_same : couples_of (take c.n c.macs) (take c.k c.fixes) ≡ couples (chip_of c)
  couples_same = rw (macs_taken, fixes_taken)

  pub macs_long : length (take c.n c.macs) ≡ c.n
  macs_long = let q = k.fine.mac_count in let l = k.whole.macs in length-take-le c.n c.macs (omega arith)

  pub fixes_long : length (take c.k c.fixes) ≡ c.k
  fixes_long = let q = k.fine.fix_count in let l = k.whole.fixes in length-take-le c.k c.fixes (omega arith)

  pub letter_each : length s ≡ length (couples_of (take c.n c.macs) (take c.k c.fixes))
  letter_each = k.letters ∙ sym (letters_count (chip_of c)) ∙ ap length (sym couples_same)

  pub few_letters : length s ≤ 120
  few_letters =
      let p = macs_long in let q = fixes_long in let a = k.fine.mac_count in let b = k.fine.fix_count in
      let e = letter_each in
      let l = few_pairs (take c.n c.macs) (take c.k c.fixes) (omega arith) (omega arith) in
      omega arith
