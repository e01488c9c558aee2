-- Letters on the pairs. Document 01, "The fit": one letter for each pair; the first of the pair stands L left, R right, B below, A above the second;
-- `.` demands nothing.
use Rattle.std.specs.Prelude.{List, [], ◌∷◌, Bool, true, false, ◌&&◌}
use Rattle.model.specs.Meaning.{Chip}
use Rattle.placement.specs.Integers.{Corner, Rect, left_of_z, below_z, within_z, pairs_z}

-- L, R, B, A and the dot
pub data Letter : Type 0 where
  left : Letter
  right : Letter
  low : Letter
  high : Letter
  dot : Letter

-- a stands to b as the letter says
abbrev pub keeps_z : Chip → Letter → Rect × Rect → Bool
keeps_z c left (a, b) = left_of_z c a b
keeps_z c right (a, b) = left_of_z c b a
keeps_z c low (a, b) = below_z c a b
keeps_z c high (a, b) = below_z c b a
keeps_z c dot q = true

-- one letter for each pair, and every letter is kept
unfoldable pub keeps_all_z : Chip → List Letter → List (Rect × Rect) → Bool
keeps_all_z c [] [] = true
keeps_all_z c [] (q ∷ qs) = false
keeps_all_z c (l ∷ ls) [] = false
keeps_all_z c (l ∷ ls) (q ∷ qs) = keeps_z c l q && keeps_all_z c ls qs

-- the placement keeps every macro in the die and keeps every letter
unfoldable pub keeps_letters_z : Chip → List Letter → List Corner → Bool
keeps_letters_z c ls ps = within_z c ps && keeps_all_z c ls (pairs_z c ps)
