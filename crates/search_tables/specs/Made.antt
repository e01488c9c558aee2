-- What the arrays made from a chip hold.
use Rattle.std.specs.Prelude.{ℕ, ◌≤◌, ◌≡◌, Bool, true, false, List, replicate}
use Rattle.model.specs.declared.Chip.{Chip as HeldChip}
use Rattle.model.specs.declared.Net.{Net}
use Rattle.model.specs.Meaning.{chip_of}
use Rattle.chip_text.specs.Valid.{pins_before}
use Rattle.chip_text.specs.Passed.{Passed}
use Rattle.placement.specs.Letters.{dot}
use Rattle.fit_slots.specs.declared.Direction.{Direction}
use Rattle.fit_slots.specs.Fit.{letter_count}
use Rattle.search_tables.specs.Tables.{Tabled, Arced}

-- the nets of the direction, and its bounds with a dot for each pair
pub record Hold (c : HeldChip) (d : Direction) (tab arcs : List ℕ) : Type 0 where
  pub tabled : Tabled d (chip_of c) tab
  pub arced : Arced d (chip_of c) (replicate (letter_count (chip_of c)) dot) arcs

-- whether t nets stand within an array of 32, and their pins within one of 128
pub record NetsFit (b : Bool) (nets : List Net) (t : ℕ) : Type 0 where
  pub yes : b ≡ true → (t ≤ 32) × (pins_before t nets ≤ 128)
  pub no : b ≡ false → t ≤ 32 → pins_before t nets ≤ 128 → ⊥

-- a chip whose test is passed has its arrays
pub record ArraysFor (c : HeldChip) (d : Direction) (tab arcs : List ℕ) : Type 0 where
  pub passed : Passed c → Hold c d tab arcs
