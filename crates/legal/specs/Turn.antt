-- Boxes tested in turn, as the code does it: each lies in the die, and is apart from the fixes and from the boxes before it.
use Rattle.std.specs.Prelude.{ℕ, Bool, true, ◌&&◌, List, [], ◌∷◌, ◌++◌, map, take}
use Rattle.model.specs.declared.Die.{Die}
use Rattle.model.specs.declared.Spot.{Spot}
use Rattle.model.specs.declared.Chip.{Chip as HeldChip}
use Rattle.geometry.specs.declared.Box.{Box}
use Rattle.geometry.specs.Box.{box_of, in_die, clear_of}
use Rattle.placement.specs.Legal.{boxes}

-- a box lies in the die, and is apart from the fixes and from the boxes before it
abbrev pub legal_box : ℕ → Die → List Box → List Box → Box → Bool
legal_box g d fs before b = in_die d b && (clear_of g b fs && clear_of g b before)

-- so does each box of a list, in turn
unfoldable pub legal_after : ℕ → Die → List Box → List Box → List Box → Bool
legal_after g d fs before [] = true
legal_after g d fs before (b ∷ s) = legal_box g d fs before b && legal_after g d fs (before ++ (b ∷ [])) s

-- so does each macro of a chip held as a value, at its position
abbrev pub legal_held : HeldChip → List Spot → Bool
legal_held c ps = legal_after 0 c.die (map box_of (take c.k c.fixes)) [] (take c.n (boxes c.macs ps))
