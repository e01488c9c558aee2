-- What the tests before a fit tell: the fit is a refusal, or the chip and the letters pass every test and the fit is the least placement that keeps them.
use Rattle.std.specs.Prelude.{ℕ, ◌+◌, ◌≤◌, ◌≡◌, List, length, Result, Ok, Err}
use Rattle.model.specs.declared.Chip.{Chip as HeldChip}
use Rattle.model.specs.Meaning.{chip_of}
use Rattle.chip_text.specs.Passed.{Passed}
use Rattle.chip_text.proofs.Passing.{Whole}
use Rattle.fit_slots.specs.Fit.{Fit, refused_by, letter_count, slot_count, fit_each, string_for, fit_letters}
use Rattle.model.specs.declared.Refusal.{Refusal}

-- m slots for each direction
pub record SlotsEach (c : HeldChip) (m : ℕ) : Type 0 where
  pub both : m + m ≡ slot_count (chip_of c)
  pub few : m ≤ 456

-- a chip whose test is passed, with arrays as long as its type says, and one letter for each pair
pub record Asking (c : HeldChip) (s : List ℕ) (m : ℕ) : Type 0 where
  pub passed : Passed c
  pub whole : Whole c
  pub letters : length s ≡ letter_count (chip_of c)
  pub slots : SlotsEach c m

-- the fit of the letters
abbrev pub fitting : HeldChip → List ℕ → Fit
fitting c s = fit_each (chip_of c) s

-- the fit is not refused: it is that of the letters that the string stands for, and there is room for m slots of each direction
pub record Ready (c : HeldChip) (s : List ℕ) (room m : ℕ) : Type 0 where
  pub asking : Asking c (string_for (chip_of c) s) m
  pub enough : m + m ≤ room
  pub fits : fit_letters (chip_of c) s room ≡ fitting c (string_for (chip_of c) s)

abbrev pub Entered : HeldChip → List ℕ → ℕ → Result ℕ Refusal → Type 0
Entered c s room (Ok m) = Ready c s room m
Entered c s room (Err f) = fit_letters (chip_of c) s room ≡ refused_by f.no f.line
