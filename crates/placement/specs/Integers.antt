-- When a placement is legal and how long it is, and which comes first. Document 01, "Legal, and how long": each macro lies in the die, and of each two macros,
-- and of each macro and each fix, one is left of, right of, below or above the other; touching edges are allowed. A net's length is its weight times
-- (greatest x - least x + greatest y - least y) over its pins; the wirelength is the sum.
-- Corners are whole numbers, and that x and y are at least 0 is a test of legality, not a type. Widths and heights are sizes, so natural.
use Rattle.std.specs.Prelude.{ℕ, zero, suc, ◌+◌, ◌*◌, ◌≤◌, ◌≡◌, Bool, true, false, ◌&&◌, ◌||◌, cond, eqb, length, get_or, ℤ, pos, neg_ℤ, ◌+ℤ◌, nat_abs}
use mathlib.Core.List.{List, [], ◌∷◌, ◌++◌, map, zip_with, product}
use Rattle.std.specs.Int.Signed.{le_z, lt_z}
use Rattle.num_text.specs.Number.{all_of}
use Rattle.model.specs.declared.Fix.{Fix}
use Rattle.model.specs.declared.Mac.{Mac}
use Rattle.model.specs.declared.Spot.{Spot}
use Rattle.model.specs.Meaning.{Pin, Net, Chip}

-- a corner; a placement is a list of corners, one for each macro
pub record Corner : Type 0 where
  pub x : ℤ
  pub y : ℤ

-- a rectangle: its lower left corner, a width and a height
pub record Rect : Type 0 where
  pub x : ℤ
  pub y : ℤ
  pub w : ℕ
  pub h : ℕ

-- a macro at a corner, and a fix
abbrev pub rect_at : Mac → Corner → Rect
rect_at m p = record { x = p.x; y = p.y; w = m.w; h = m.h }

abbrev pub rect_of : Fix → Rect
rect_of f = record { x = pos f.x; y = pos f.y; w = f.w; h = f.h }

-- ---- legal

-- the gap that a chip asks between two macros, and between a macro and a fix: none
abbrev pub gap_of : Chip → ℕ
gap_of c = 0

-- left of: corner plus width plus gap is at most the other corner; below: corner plus height plus gap
abbrev pub left_of_z : Chip → Rect → Rect → Bool
left_of_z c a b = le_z (a.x +ℤ pos a.w +ℤ pos (gap_of c)) b.x

abbrev pub below_z : Chip → Rect → Rect → Bool
below_z c a b = le_z (a.y +ℤ pos a.h +ℤ pos (gap_of c)) b.y

-- one is left of, right of, below or above the other
abbrev pub apart_z : Chip → Rect × Rect → Bool
apart_z c (a, b) = left_of_z c a b || (left_of_z c b a || (below_z c a b || below_z c b a))

-- x and y at least 0, x + w at most W, y + h at most H
abbrev pub in_die_z : Chip → Rect → Bool
in_die_z c a = (le_z (pos 0) a.x && le_z (pos 0) a.y) && (le_z (a.x +ℤ pos a.w) (pos c.die.w) && le_z (a.y +ℤ pos a.h) (pos c.die.h))

-- the macros at their corners
abbrev pub rects : Chip → List Corner → List Rect
rects c ps = zip_with rect_at c.macs ps

-- one corner for each macro, and every macro in the die
unfoldable pub within_z : Chip → List Corner → Bool
within_z c ps = eqb (length ps) (length c.macs) && all_of (in_die_z c) (rects c ps)

-- each two of a list: 1-2, 1-3 .. 2-3 ..
unfoldable pub each_two : List Rect → List (Rect × Rect)
each_two [] = []
each_two (a ∷ s) = map (λ (b : Rect). (a, b)) s ++ each_two s

-- the pairs: each two macros, then macro 1 with fix 1, 2 .., macro 2 with fix 1 ..
unfoldable pub pairs_z : Chip → List Corner → List (Rect × Rect)
pairs_z c ps = each_two (rects c ps) ++ product (rects c ps) (map rect_of c.fixes)

-- a placement is legal: every macro in the die, and each pair apart
unfoldable pub legal_z : Chip → List Corner → Bool
legal_z c ps = within_z c ps && all_of (apart_z c) (pairs_z c ps)

-- ---- the box of a net

-- the greatest and the least of a and the places s
unfoldable pub greatest : ℤ → List ℤ → ℤ
greatest a [] = a
greatest a (b ∷ s) = greatest (cond (le_z a b) b a) s

unfoldable pub least : ℤ → List ℤ → ℤ
least a [] = a
least a (b ∷ s) = least (cond (le_z a b) a b) s

-- the greatest and the least of places (a net has a pin)
unfoldable pub greatest_of : List ℤ → ℤ
greatest_of [] = pos 0
greatest_of (a ∷ s) = greatest a s

unfoldable pub least_of : List ℤ → ℤ
least_of [] = pos 0
least_of (a ∷ s) = least a s

-- the corner 0,0
abbrev pub zero_corner : Corner
zero_corner = record { x = pos 0; y = pos 0 }

-- the corner that a pin's x and y are added to: the macro's, or 0,0 for a pad
abbrev pub origin_z : List Corner → ℕ → Corner
origin_z ps zero = zero_corner
origin_z ps (suc m) = get_or ps m zero_corner

-- where a pin lies: x and y
abbrev pub pin_xz : List Corner → Pin → ℤ
pin_xz ps p = (origin_z ps p.m).x +ℤ p.x

abbrev pub pin_yz : List Corner → Pin → ℤ
pin_yz ps p = (origin_z ps p.m).y +ℤ p.y

-- the box of a net (document 02, Card 2): its least and greatest x, its least and greatest y
pub record NetBox : Type 0 where
  pub left : ℤ
  pub right : ℤ
  pub bottom : ℤ
  pub top : ℤ

-- the box around the places xs and ys of pins
abbrev pub box_around : List ℤ → List ℤ → NetBox
box_around xs ys = record { left = least_of xs; right = greatest_of xs; bottom = least_of ys; top = greatest_of ys }

-- what measuring a net promises
abbrev pub net_box_z : List Corner → Net → NetBox
net_box_z ps t = box_around (map (pin_xz ps) t.pins) (map (pin_yz ps) t.pins)

-- ---- how long

-- from one place to another that is at least as great
abbrev pub span : ℤ → ℤ → ℕ
span a b = nat_abs (b +ℤ neg_ℤ a)

-- the length of a net of weight w with the box b: its weight times (greatest x - least x + greatest y - least y)
abbrev pub box_length : ℕ → NetBox → ℕ
box_length w b = w * (span b.left b.right + span b.bottom b.top)

-- the sum of the lengths of nets
unfoldable pub nets_length_z : List Corner → List Net → ℕ
nets_length_z ps [] = 0
nets_length_z ps (t ∷ ts) = box_length t.weight (net_box_z ps t) + nets_length_z ps ts

-- the wirelength of a placement
abbrev pub wirelength_z : Chip → List Corner → ℕ
wirelength_z c ps = nets_length_z ps c.nets

-- ---- the order: by x1, then y1, x2, y2 and so on, the smaller first

-- a is smaller than b; where they are equal, what follows decides
abbrev pub smaller_first : ℤ → ℤ → Bool → Bool
smaller_first a b follows = lt_z a b || ((le_z a b && le_z b a) && follows)

-- the placement ps comes before qs
unfoldable pub before_z : List Corner → List Corner → Bool
before_z [] qs = false
before_z (p ∷ ps) [] = false
before_z (p ∷ ps) (q ∷ qs) = smaller_first p.x q.x (smaller_first p.y q.y (before_z ps qs))

-- ---- the least

-- ps passes the test and has length l; every placement that passes has at least that length, and each other one of that length comes after ps
pub record EarliestLeastZ (c : Chip) (passes : List Corner → Bool) (l : ℕ) (ps : List Corner) : Type 0 where
  pub passed : passes ps ≡ true
  pub long : l ≡ wirelength_z c ps
  pub least : (qs : List Corner) → passes qs ≡ true → l ≤ wirelength_z c qs
  pub earliest : (qs : List Corner) → passes qs ≡ true → l ≡ wirelength_z c qs → (qs ≡ ps → ⊥) → before_z ps qs ≡ true

-- natural corners, as the program holds them, as integers
abbrev pub integers : List Spot → List Corner
integers ps = map (λ (p : Spot). record { x = pos p.x; y = pos p.y }) ps
