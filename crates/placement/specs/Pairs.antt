-- Letters on the pairs of a placement with natural corners, box by box: as Letters.antt says (proofs/Integers.antt, `letters_same`).
use Rattle.std.specs.Prelude.{List, [], ◌∷◌, ◌++◌, map, Bool, true, false, ◌&&◌}
use Rattle.model.specs.declared.Spot.{Spot}
use Rattle.model.specs.Meaning.{Chip}
use Rattle.geometry.specs.declared.Box.{Box}
use Rattle.geometry.specs.Box.{left_of, below}
use Rattle.placement.specs.Integers.{gap_of}
use Rattle.placement.specs.Letters.{Letter, left, right, low, high, dot}
use Rattle.placement.specs.Legal.{boxes, fix_boxes, within}

-- a stands to b as the letter says
abbrev pub keeps : Chip → Letter → Box → Box → Bool
keeps c left a b = left_of (gap_of c) a b
keeps c right a b = left_of (gap_of c) b a
keeps c low a b = below (gap_of c) a b
keeps c high a b = below (gap_of c) b a
keeps c dot a b = true

pub record Pair : Type 0 where
  pub first : Box
  pub second : Box

abbrev pub with : Box → List Box → List Pair
with a s = map (λ (b : Box). record { first = a; second = b }) s

-- each two of the boxes
unfoldable pub pairs_of : List Box → List Pair
pairs_of [] = []
pairs_of (a ∷ s) = with a s ++ pairs_of s

-- each of the boxes with each of the fixes
unfoldable pub with_each : List Box → List Box → List Pair
with_each [] fs = []
with_each (a ∷ s) fs = with a fs ++ with_each s fs

unfoldable pub pairs : Chip → List Spot → List Pair
pairs c ps = pairs_of (boxes c.macs ps) ++ with_each (boxes c.macs ps) (fix_boxes c)

-- one letter for each pair, and every letter is kept
unfoldable pub keeps_all : Chip → List Letter → List Pair → Bool
keeps_all c [] [] = true
keeps_all c [] (q ∷ qs) = false
keeps_all c (l ∷ ls) [] = false
keeps_all c (l ∷ ls) (q ∷ qs) = keeps c l q.first q.second && keeps_all c ls qs

-- the placement keeps every macro in the die and keeps every letter
unfoldable pub keeps_letters : Chip → List Letter → List Spot → Bool
keeps_letters c ls ps = within c ps && keeps_all c ls (pairs c ps)
