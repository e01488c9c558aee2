-- From the first fault of a record, and from the readings of both texts, to the answer: in the form of the needs.
use Prim.Native.Nat.{ℕ}
use mathlib.Core.Path.{◌≡◌}
use mathlib.Core.List.{List}
use Rattle.std.specs.Prelude.{Result, Ok, Err}
use Rattle.model.specs.declared.Chip.{Chip as HeldChip}
use Rattle.model.specs.declared.Record.{Record as HeldRecord}
use Rattle.model.specs.declared.Refusal.{Refusal}
use Rattle.model.specs.Meaning.{Chip, Record, chip_of, record_of}
use Rattle.refusals.specs.Tests.{first_failed}
use Rattle.refusals.proofs.FirstFailed.{number_refused, number_none}
use Rattle.text_grammar.specs.Reading.{accepted}
use Rattle.chip_text.specs.Text.{read_chip}
use Rattle.record_text.specs.Text.{read_record}
use Rattle.chip_read.specs.Answer.{meant_chip}
use Rattle.record_read.specs.Answer.{meant_record}
use Rattle.beside_check.specs.declared.AtFault.TheVariants as text
use Rattle.beside_check.specs.Beside.{Beside, passed, refused, beside_tests, not_of_chip, beside_read, check_beside}

-- ---- what the first fault of a record tells

module _ (c : Chip) (r : Record) (no k : ℕ) (q : no ≡ k) (same : k ≡ first_failed (beside_tests c r)) where
  pub tells_refused : (no ≡ 0 → ⊥) → refused no 0 text.Neither ≡ beside_read (accepted c) (accepted r)
  tells_refused h = rw (← same, ← q) (number_refused not_of_chip passed no h)

  pub tells_passed : no ≡ 0 → passed ≡ beside_read (accepted c) (accepted r)
  tells_passed z = rw (← same, ← q) (number_none not_of_chip passed no z)

-- ---- both texts

module _ (chip beside : List ℕ) (a : Result HeldChip Refusal) (e : meant_chip a ≡ read_chip chip) where
  pub chip_refused : (f : Refusal) → a ≡ Err f → refused f.no f.line text.Chip ≡ check_beside chip beside
  chip_refused f q = rw (← e, q)

  module _ (c : HeldChip) (h : a ≡ Ok c) (b : Result HeldRecord Refusal) (g : meant_record b ≡ read_record beside) where
    pub record_refused : (f : Refusal) → b ≡ Err f → refused f.no f.line text.Record ≡ check_beside chip beside
    record_refused f q = rw (← e, h, ← g, q)

    pub both_read : (r : HeldRecord) → b ≡ Ok r → (m : Beside) → m ≡ beside_read (accepted (chip_of c)) (accepted (record_of r)) → m ≡ check_beside chip beside
    both_read r q m z = rw (← e, h, ← g, q) z
