-- The answer of a fit where the list of positions is too short: a refusal, whatever list of slots is lent. A helper's contract.
use Rattle.std.specs.Prelude.{ℕ, ◌+◌, ◌<◌, ◌≡◌, List, length}
use Rattle.model.specs.declared.Chip.{Chip as HeldChip}
use Rattle.model.specs.Meaning.{chip_of}
use Rattle.text_grammar.specs.Reading.{accepted}
use Rattle.host_codes.specs.declared.Code.{Code}
use Rattle.host_fit.specs.FitText.{FitDone}

-- r refuses, and both lists are as they were
pub record Refusing (c : HeldChip) (s : List ℕ) (room : ℕ) (r : Code) : Type 0 where
  pub done : room < c.n + c.n → (slots places : List ℕ) → length places ≡ room → FitDone (accepted (chip_of c)) s r slots slots places places
