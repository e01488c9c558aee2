-- Demand 3 in its own words, over whole-number placements: corners are integers, and that x and y are at least 0 is a test of legality.
use Rattle.std.specs.Prelude.{ℕ, ◌≤◌, ◌≡◌, true, List, ◌++◌, ◌⊎◌, length, drop}
use Rattle.model.specs.declared.Spot.{Spot}
use Rattle.model.specs.Meaning.{Chip, Record, none, least}
use Rattle.text_grammar.specs.Reading.{accepted}
use Rattle.chip_text.specs.Text.{read_chip}
use Rattle.record_text.specs.Text.{record_text}
use Rattle.placement.specs.Integers.{Corner, legal_z, EarliestLeastZ, integers}

-- the record `none`: no whole-number placement is legal
pub record SaysNoneZ (c : Chip) (r : Record) : Type 0 where
  pub is : r ≡ none
  pub illegal : (qs : List Corner) → legal_z c qs ≡ true → ⊥

-- the record of a placement that is the earliest least one of all whole-number placements, with its own wirelength
pub record SaysLeastZ (c : Chip) (r : Record) : Type 0 where
  pub length : ℕ
  pub placement : List Spot
  pub is : r ≡ least length placement
  pub first : EarliestLeastZ c (legal_z c) length (integers placement)

-- a record of k bytes stands in the first bytes of the buffer, the rest is as it was; the text is that of a chip, and the record says what
-- the demand asks
pub record PlacedZ (text out : List ℕ) (k : ℕ) (after : List ℕ) : Type 0 where
  pub chip : Chip
  pub read : read_chip text ≡ accepted chip
  pub result : Record
  pub count : k ≡ length (record_text result)
  pub room : length (record_text result) ≤ length out
  pub bytes : after ≡ record_text result ++ drop (length (record_text result)) out
  pub says : SaysNoneZ chip result ⊎ SaysLeastZ chip result
