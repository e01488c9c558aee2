-- The macros of a tested chip, tested in turn, tell whether its positions are legal.
use mathlib.Core.Path.{◌≡◌, sym, ◌∙◌}
use mathlib.Core.List.{List}
use native.Mathlib.Omega.{arith}
use lib.ListN.{length, take}
use lib.Seq.{length-take-le}
use borrow.Author.Tests.{eq-eqb}
use Rattle.model.specs.declared.Spot.{Spot}
use Rattle.model.specs.declared.Chip.{Chip as HeldChip}
use Rattle.model.specs.Meaning.{chip_of, blank_fix, blank_mac}
use Rattle.model.proofs.FirstOf.{first_take}
use Rattle.chip_text.specs.Valid.{HeldValid}
use Rattle.chip_text.proofs.HeldMeaning.{macs_held}
use Rattle.placement.specs.Legal.{boxes, within, legal}
use Rattle.placement.proofs.Boxes.{take_boxes}
use Rattle.legal.proofs.TurnLegal.{turn_legal}
use Rattle.legal.specs.Turn.{legal_held}

module _ (c : HeldChip) (fine : HeldValid c) (s : List Spot) (l : length c.fixes ≡ 8) (m : length c.macs ≡ 8) (n : length s ≡ 8) where
  its_boxes : boxes (chip_of c).macs (take c.n s) ≡ take c.n (boxes c.macs s)
  unfolding chip_of
  its_boxes = let few = fine.mac_count in rw (first_take blank_mac c.n c.macs (omega arith)) (take_boxes c.n c.macs s)

  its_fixes : (chip_of c).fixes ≡ take c.k c.fixes
  unfolding chip_of
  its_fixes = let few = fine.fix_count in first_take blank_fix c.k c.fixes (omega arith)

  as_many : length (take c.n s) ≡ length (chip_of c).macs
  as_many = let few = fine.mac_count in length-take-le c.n s (omega arith) ∙ sym (macs_held c fine m)

  pub legal_told : legal_held c s ≡ legal (chip_of c) (take c.n s)
  unfolding chip_of within legal
  legal_told = rw (← its_fixes, ← its_boxes, eq-eqb _ _ as_many) (turn_legal (chip_of c) (boxes (chip_of c).macs (take c.n s)))
