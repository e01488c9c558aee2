-- Boxes. Document 01, "Legal, and how long": a box lies in the die, and of two boxes one is left of, right of, below or above the other.
-- g is the gap that is asked between them; where it is 0, touching edges are allowed.
use Rattle.std.specs.Prelude.{ℕ, ◌+◌, List, [], ◌∷◌, Bool, true, ◌&&◌, ◌||◌, leb}
use Rattle.std.specs.List.{list_all}
use Rattle.model.specs.declared.Die.{Die}
use Rattle.model.specs.declared.Fix.{Fix}
use Rattle.model.specs.declared.Mac.{Mac}
use Rattle.model.specs.declared.Spot.{Spot}
use Rattle.geometry.specs.declared.Box.{Box}

-- a macro at a corner, and a fix
abbrev pub box_at : Mac → Spot → Box
box_at m p = record { x = p.x; y = p.y; w = m.w; h = m.h }

abbrev pub box_of : Fix → Box
box_of f = record { x = f.x; y = f.y; w = f.w; h = f.h }

-- the box with 0 in every field
abbrev pub blank_box : Box
blank_box = record { x = 0; y = 0; w = 0; h = 0 }

-- x + w at most W, y + h at most H
abbrev pub in_die : Die → Box → Bool
in_die d a = leb (a.x + a.w) d.w && leb (a.y + a.h) d.h

-- left of: corner plus width plus gap is at most the other corner
abbrev pub left_of : ℕ → Box → Box → Bool
left_of g a b = leb (a.x + a.w + g) b.x

-- below: corner plus height plus gap is at most the other corner
abbrev pub below : ℕ → Box → Box → Bool
below g a b = leb (a.y + a.h + g) b.y

-- one is left of, right of, below or above the other
abbrev pub apart : ℕ → Box → Box → Bool
apart g a b = left_of g a b || (left_of g b a || (below g a b || below g b a))

-- a is apart from each box of a list
unfoldable pub clear_of : ℕ → Box → List Box → Bool
clear_of g a s = list_all (apart g a) s
