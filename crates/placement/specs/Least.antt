-- The earliest least placement. Document 01, "The search and its record": a legal placement is the chip's earliest least one when every other legal placement
-- has at least its wirelength and each other one with the same wirelength comes later in the order. Here it is found by trying every placement in the die in
-- that order and taking the first of least wirelength.
use Rattle.std.specs.Prelude.{ℕ, zero, suc, Bool, true, false, ltb}
use mathlib.Core.List.{List, [], ◌∷◌, map, flat_map}
use Rattle.model.specs.declared.Mac.{Mac}
use Rattle.model.specs.declared.Spot.{Spot}
use Rattle.model.specs.Meaning.{Chip, Record, none}
use Rattle.model.specs.Meaning as meaning
use Rattle.placement.specs.Integers.{Corner, legal_z, wirelength_z, integers}
use Rattle.placement.specs.Letters.{Letter, keeps_letters_z}

-- a, a + 1 and so on, k of them
unfoldable pub up_from : ℕ → ℕ → List ℕ
up_from a zero = []
up_from a (suc k) = a ∷ up_from (suc a) k

-- the corners 0..W, 0..H, by x and then by y
abbrev pub corners : Chip → List Spot
corners c = flat_map (λ (x : ℕ). map (λ (y : ℕ). record { x = x; y = y }) (up_from 0 (suc c.die.h))) (up_from 0 (suc c.die.w))

-- every placement of the macros on these corners, in order
unfoldable pub placements : List Mac → List Spot → List (List Spot)
placements [] all = [] ∷ []
placements (m ∷ ms) all = flat_map (λ (p : Spot). map (λ (ps : List Spot). p ∷ ps) (placements ms all)) all

-- nothing found, or a wirelength and its placement
pub data Best : Type 0 where
  nothing : Best
  found : ℕ → List Spot → Best

-- the length l is shorter than the best so far
abbrev pub shorter : ℕ → Best → Bool
shorter l nothing = true
shorter l (found m ps) = ltb l m

-- the first of least length among those that pass, after the best so far
unfoldable pub try_all : (List Spot → ℕ) → (List Spot → Bool) → List (List Spot) → Best → Best
try_all long passes [] b = b
try_all long passes (ps ∷ rest) b =
    elim (passes ps) [
      | true ↦ (let l : ℕ = long ps in elim (shorter l b) [ true ↦ try_all long passes rest (found l ps) | false ↦ try_all long passes rest b ])
      | false ↦ try_all long passes rest b
    ]

-- the first of least wirelength among the placements of a chip that pass
unfoldable pub first_least : Chip → (List Corner → Bool) → Best
first_least c passes = try_all (λ ps. wirelength_z c (integers ps)) (λ ps. passes (integers ps)) (placements c.macs (corners c)) nothing

-- the earliest least legal placement
abbrev pub earliest_least : Chip → Best
earliest_least c = first_least c (legal_z c)

-- the fit of letters: the least under them, and of those the earliest
abbrev pub fit_of : Chip → List Letter → Best
fit_of c ls = first_least c (keeps_letters_z c ls)

-- the record of what was found
abbrev pub best_record : Best → Record
best_record nothing = none
best_record (found wl ps) = meaning.least wl ps

-- a chip alone fixes its record
unfoldable pub chip_record : Chip → Record
chip_record c = best_record (earliest_least c)
