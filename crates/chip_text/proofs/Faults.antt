-- The last tests of a line, in the form of the needs of the functions that make them, and what a line adds by their first fault.
use Prim.Native.Nat.{ℕ, ◌≤◌, ◌<◌}
use mathlib.Core.Path.{◌≡◌, refl, ap, ◌∙◌}
use mathlib.Core.Bool.{Bool, true, false, not}
use mathlib.Core.List.{List, map}
use lib.Dec.{leb}
use lib.ListN.{length}
use borrow.Author.Tests.{not-true, not-false, le-leb, lt-leb}
use Rattle.model.specs.declared.Die.{Die}
use Rattle.model.specs.declared.Fix.{Fix}
use Rattle.geometry.specs.declared.Box.{Box}
use Rattle.geometry.specs.Box.{box_of, in_die, clear_of}
use Rattle.text_grammar.specs.Line.{Value}
use Rattle.text_grammar.specs.Words.{size}
use Rattle.text_grammar.proofs.Entry.{found_or, found_check}
use Rattle.chip_text.specs.declared.ChipWord.TheVariants as word
use Rattle.chip_text.specs.Kind.{Part, with_fix, with_pin, pin_of, read_to, add_fix, add}
use Rattle.chip_text.specs.Faults.{placed_fault, macro_fault}

module _ (d : Die) (f : Fix) (fs : List Fix) (b : Box) (eb : b ≡ box_of f) (inside : Bool) (i : inside ≡ in_die d b) where
  tested : inside ≡ in_die d (box_of f)
  tested = i ∙ ap (in_die d) eb

  pub fix_leaves : not inside ≡ true → 9 ≡ placed_fault d f fs
  unfolding placed_fault
  fix_leaves h = rw (← tested, not-true inside h)

  module _ (stays : not inside ≡ false) (clear : Bool) (c : clear ≡ clear_of 0 (box_of f) (map box_of fs)) where
    pub fix_overlaps : not clear ≡ true → 10 ≡ placed_fault d f fs
    unfolding placed_fault
    fix_overlaps h = rw (← tested, not-false inside stays, ← c, not-true clear h)

    pub fix_fine : not clear ≡ false → 0 ≡ placed_fault d f fs
    unfolding placed_fault
    fix_fine h = rw (← tested, not-false inside stays, ← c, not-false clear h)

module _ (n m : ℕ) where
  pub no_macro : n < m → 8 ≡ macro_fault n m
  unfolding macro_fault
  no_macro h = rw (lt-leb m n h)

  pub a_macro : m ≤ n → 0 ≡ macro_fault n m
  unfolding macro_fault
  a_macro h = rw (le-leb m n h)

-- ---- what a line adds

pub fix_adds : (s : Part) (f : Fix) → add_fix s f ≡ found_or (placed_fault s.chip.die f s.chip.fixes) (read_to word.Fix (with_fix s.chip f))
unfolding placed_fault
fix_adds s f =
    found_check (in_die s.chip.die (box_of f)) 8 _ _ _
    (found_check (clear_of 0 (box_of f) (map box_of s.chip.fixes)) 9 0 (read_to word.Fix (with_fix s.chip f)) _ refl)

pub pin_adds : (s : Part) (vs : List Value) → add s word.Pin vs ≡ found_or (macro_fault (length s.chip.macs) (size vs 0)) (read_to word.Pin (with_pin s.chip (pin_of vs)))
unfolding macro_fault
pin_adds s vs = found_check (leb (size vs 0) (length s.chip.macs)) 7 0 (read_to word.Pin (with_pin s.chip (pin_of vs))) _ refl
