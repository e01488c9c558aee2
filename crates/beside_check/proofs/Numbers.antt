-- The refusal numbers of a record read beside its chip: those of reading, 13, 16 and 17 (`beside_number`), with a line of reading or 0 (`beside_line_law`).
use Prim.Native.Nat.{ℕ, ◌≤◌}
use mathlib.Core.Path.{◌≡◌}
use mathlib.Core.Logic.{◌⊎◌, inl, inr}
use mathlib.Core.Bool.{Bool, true, false, cond}
use mathlib.Core.List.{List}
use native.Mathlib.Omega.{arith}
use lib.Dec.{eqb}
use lib.ListN.{length}
use Rattle.model.specs.Meaning.{Chip, Record, none, least}
use Rattle.refusals.specs.Tests.{first_failed, unless_failed}
use Rattle.text_grammar.specs.Reading.{Reading, accepted, refused as not_read}
use Rattle.text_grammar.proofs.Numbers.{Numbered}
use Rattle.chip_text.specs.Text.{read_chip}
use Rattle.chip_text.proofs.Numbers.{chip_number, chip_line}
use Rattle.record_text.specs.Text.{read_record}
use Rattle.record_text.proofs.Numbers.{record_number, record_line}
use Rattle.placement.specs.Integers.{legal_z, wirelength_z, integers}
use Rattle.beside_check.specs.declared.AtFault.{AtFault}
use Rattle.beside_check.specs.Beside.{passed, refused, not_of_chip, beside_read, check_beside}

module _ (chip beside : List ℕ) (n l : ℕ) (t : AtFault) where
  -- the number of one of the tests after all reading, and its line
  abbrev Tested : Type 0
  Tested = ((n ≡ 13) ⊎ ((n ≡ 16) ⊎ (n ≡ 17))) × (l ≡ 0)

  tested : (a b d : Bool) → unless_failed not_of_chip (cond a (cond b (cond d 0 17) 16) 13) passed ≡ refused n l t → Tested
  tested false b d h = (inl cc, cc)
  tested true false d h = (inr (inl cc), cc)
  tested true true false h = (inr (inr cc), cc)
  tested true true true h = let z : ◌≡◌ {A = ℕ} 0 1 = cc in absurd (omega arith)

  -- one of the readings refuses, or one of the tests
  told : check_beside chip beside ≡ refused n l t → ((read_chip chip ≡ not_read n l) ⊎ (read_record beside ≡ not_read n l)) ⊎ Tested
  unfolding first_failed
  told = by (read_chip chip) (read_record beside)
    where
      by : (x : Reading Chip) (y : Reading Record) → beside_read x y ≡ refused n l t → ((x ≡ not_read n l) ⊎ (y ≡ not_read n l)) ⊎ Tested
      by (not_read k m) y h = inl (inl cc)
      by (accepted c) (not_read k m) h = inl (inr cc)
      by (accepted c) (accepted none) h = let z : ◌≡◌ {A = ℕ} 0 1 = cc in absurd (omega arith)
      by (accepted c) (accepted (least wl ps)) h = inr (tested (eqb (length ps) (length c.macs)) (legal_z c (integers ps)) (eqb wl (wirelength_z c (integers ps))) h)

  pub beside_number : check_beside chip beside ≡ refused n l t → Numbered 10 n ⊎ ((n ≡ 13) ⊎ ((n ≡ 16) ⊎ (n ≡ 17)))
  beside_number h = by (told h)
    where
      by : ((read_chip chip ≡ not_read n l) ⊎ (read_record beside ≡ not_read n l)) ⊎ Tested → Numbered 10 n ⊎ ((n ≡ 13) ⊎ ((n ≡ 16) ⊎ (n ≡ 17)))
      by (inl (inl e)) = inl (chip_number chip n l e)
      by (inl (inr e)) = inl (record_number beside n l e)
      by (inr e) = inr e.0

  pub beside_line_law : check_beside chip beside ≡ refused n l t → l ≤ 16385
  beside_line_law h = by (told h)
    where
      by : ((read_chip chip ≡ not_read n l) ⊎ (read_record beside ≡ not_read n l)) ⊎ Tested → l ≤ 16385
      by (inl (inl e)) = chip_line chip n l e
      by (inl (inr e)) = record_line beside n l e
      by (inr e) = let z = e.1 in omega arith
