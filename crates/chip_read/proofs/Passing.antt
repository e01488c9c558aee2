-- A chip that was read keeps what a tested chip keeps.
use Prim.Native.Nat.{ℕ}
use mathlib.Core.Path.{◌≡◌, sym, ap, subst, ◌∙◌}
use mathlib.Core.List.{List}
use Rattle.std.specs.Prelude.{Result, Ok, Err, Option, Some, None}
use Rattle.model.specs.declared.Chip.{Chip as HeldChip}
use Rattle.model.specs.declared.Refusal.{Refusal}
use Rattle.model.specs.Meaning.{chip_of}
use Rattle.text_grammar.specs.Reading.{accepted, refused}
use Rattle.chip_text.specs.Text.{read_chip}
use Rattle.chip_text.specs.Passed.{Passed}
use Rattle.chip_text.proofs.Passing.{Whole, passed_by}
use Rattle.chip_text.proofs.ReadText.{read_text_law}
use Rattle.chip_read.specs.Answer.{meant_chip}

module _ (text : List ℕ) (a : Result HeldChip Refusal) (e : meant_chip a ≡ read_chip text) where
  pub read_accepted : (c : HeldChip) → a ≡ Ok c → read_chip text ≡ accepted (chip_of c)
  read_accepted c q = sym e ∙ ap meant_chip q

  pub read_passed : (c : HeldChip) → Whole c → a ≡ Ok c → Passed c
  read_passed c w q =
      let read = read_accepted c q in
      passed_by c w (sym (subst (λ (t : List ℕ). read_chip t ≡ accepted (chip_of c)) (read_text_law text (chip_of c) read) read))
