-- How many letters there are: the needs of the function that counts them, and the count for at most 8 macros and 8 fixes.
use Prim.Native.Nat.{ℕ, ◌-◌, ◌*◌, ◌≤◌, ◌<◌}
use mathlib.Core.Path.{◌≡◌, refl, sym, ◌∙◌}
use mathlib.Core.Bool.{Bool, true, false, ◌&&◌, cond}
use native.Mathlib.Omega.{arith}
use mir.Syntax.{w64}
use mir.Val.{Fits}
use lib.Dec.{leb}
use borrow.Author.Tests.{le-leb, lt-leb}
use Rattle.model.specs.declared.Chip.{Chip as HeldChip}
use Rattle.model.specs.Meaning.{chip_of}
use Rattle.chip_text.specs.Passed.{Passed}
use Rattle.fit_slots.specs.Fit.{letters_for, letter_count}
use Rattle.fit_slots.proofs.Counting.{mac_product, fix_product, few_letters}
use Rattle.fit_pairs.specs.Count.{letter_total}

module _ (n : ℕ) (h : n ≤ 8) where
  module _ (k : ℕ) (l : k ≤ 8) where
    pub all_letters : letters_for n k ≡ letter_total n k
    unfolding letter_total
    all_letters = rw (le-leb n 8 h, le-leb k 8 l)

-- ---- of a chip whose test is passed

module _ (c : HeldChip) (ok : Passed c) (p : ℕ) (e : p ≡ letter_total c.n c.k) where
  as_many : p ≡ letters_for c.n c.k
  as_many = e ∙ sym (all_letters c.n ok.fine.mac_count c.k ok.fine.fix_count)

  pub chip_letters : p ≡ letter_count (chip_of c)
  chip_letters = as_many ∙ rw (ok.macs, ok.fixes)

  pub chip_few : p ≤ 92
  chip_few =
      let q = as_many in
      let l = few_letters c.n ok.fine.mac_count c.k ok.fine.fix_count in
      omega arith
