-- When a placement with natural corners is legal, box by box, as the program tests it: as Integers.antt says (proofs/Integers.antt, `legal_same`).
use mathlib.Core.List.{List, [], ◌∷◌, map, zip_with}
use Rattle.std.specs.Prelude.{Bool, true, ◌&&◌, eqb, length}
use Rattle.num_text.specs.Number.{all_of}
use Rattle.model.specs.declared.Mac.{Mac}
use Rattle.model.specs.declared.Spot.{Spot}
use Rattle.model.specs.Meaning.{Chip}
use Rattle.geometry.specs.declared.Box.{Box}
use Rattle.geometry.specs.Box.{box_at, box_of, in_die, clear_of}
use Rattle.placement.specs.Integers.{gap_of}

-- the macros at their corners
abbrev pub boxes : List Mac → List Spot → List Box
boxes ms ps = zip_with box_at ms ps

-- the fixes
abbrev pub fix_boxes : Chip → List Box
fix_boxes c = map box_of c.fixes

-- each two of the macros, and each macro and each fix
unfoldable pub all_apart : Chip → List Box → Bool
all_apart c [] = true
all_apart c (a ∷ s) = clear_of (gap_of c) a s && (clear_of (gap_of c) a (fix_boxes c) && all_apart c s)

-- every macro has a corner and lies in the die
unfoldable pub within : Chip → List Spot → Bool
within c ps = eqb (length ps) (length c.macs) && all_of (in_die c.die) (boxes c.macs ps)

unfoldable pub legal : Chip → List Spot → Bool
legal c ps = within c ps && all_apart c (boxes c.macs ps)
