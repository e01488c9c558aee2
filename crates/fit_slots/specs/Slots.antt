-- The slots of a fit. Document 01, "The fit": horizontal slots, then vertical; two for each macro, one for each pair, two for each pin, all in
-- file order. Each slot is a bound "v - u ≥ a".
use Rattle.std.specs.Prelude.{ℕ, suc, ◌+◌, length, ℤ, pos, neg_ℤ, ◌-ℤ◌}
use mathlib.Core.List.{List, [], ◌∷◌, ◌++◌, map, zip_with, flat_map}
use Rattle.model.specs.declared.Die.{Die}
use Rattle.model.specs.declared.Fix.{Fix}
use Rattle.model.specs.declared.Mac.{Mac}
use Rattle.model.specs.Meaning.{Pin, Net, Chip}
use Rattle.placement.specs.Letters.{Letter}
use Rattle.fit_slots.specs.declared.Direction.{Direction}
use Rattle.fit_slots.specs.declared.Direction.TheVariants.{Horizontal as horizontal, Vertical as vertical}
use Rattle.fit_slots.specs.declared.Asked.{Asked}
use Rattle.fit_slots.specs.declared.Asked.TheVariants.{Before as before, After as after, Nothing as nothing}
use Rattle.placement.specs.Letters as letter

-- a slot without a bound, or the bound v - u ≥ a between nodes u and v. Nodes: 0 is the die corner, i is macro i, and after the macros stand hi
-- and lo of each net in turn.
pub data Slot : Type 0 where
  free : Slot
  bound : ℕ → ℕ → ℤ → Slot

-- ---- what a direction reads of each thing: x and widths, or y and heights

abbrev pub die_side : Direction → Die → ℕ
die_side horizontal d = d.w
die_side vertical d = d.h

abbrev pub mac_side : Direction → Mac → ℕ
mac_side horizontal m = m.w
mac_side vertical m = m.h

abbrev pub fix_side : Direction → Fix → ℕ
fix_side horizontal f = f.w
fix_side vertical f = f.h

abbrev pub fix_corner : Direction → Fix → ℕ
fix_corner horizontal f = f.x
fix_corner vertical f = f.y

abbrev pub pin_place : Direction → Pin → ℤ
pin_place horizontal p = p.x
pin_place vertical p = p.y

-- what a letter asks in a direction: the first before the second (L, vertically B), after it (R, vertically A), or nothing
abbrev pub asked : Direction → Letter → Asked
asked horizontal letter.left = before
asked horizontal letter.right = after
asked horizontal letter.low = nothing
asked horizontal letter.high = nothing
asked horizontal letter.dot = nothing
asked vertical letter.left = nothing
asked vertical letter.right = nothing
asked vertical letter.low = before
asked vertical letter.high = after
asked vertical letter.dot = nothing

-- ---- the slots of macros

-- for macro i and those after it: x_i - 0 ≥ 0, 0 - x_i ≥ w_i - W
unfoldable pub mac_slots : Direction → Die → ℕ → List Mac → List Slot
mac_slots d die i [] = []
mac_slots d die i (m ∷ ms) = bound 0 i (pos 0) ∷ bound i 0 (pos (mac_side d m) -ℤ pos (die_side d die)) ∷ mac_slots d die (suc i) ms

-- ---- the slots of pairs

-- a pair: two macros, or a macro and a fix; macros with their numbers
pub data Couple : Type 0 where
  two_macs : ℕ → Mac → ℕ → Mac → Couple
  mac_fix : ℕ → Mac → Fix → Couple

-- macro i with each of the macros from macro j on
unfoldable pub couples_with : ℕ → Mac → ℕ → List Mac → List Couple
couples_with i a j [] = []
couples_with i a j (b ∷ s) = two_macs i a j b ∷ couples_with i a (suc j) s

-- each two of the macros from macro i on
unfoldable pub mac_couples : ℕ → List Mac → List Couple
mac_couples i [] = []
mac_couples i (a ∷ s) = couples_with i a (suc i) s ++ mac_couples (suc i) s

-- each macro from macro i on with each of the fixes
unfoldable pub fix_couples : ℕ → List Mac → List Fix → List Couple
fix_couples i [] fs = []
fix_couples i (a ∷ s) fs = map (mac_fix i a) fs ++ fix_couples (suc i) s fs

-- the pairs in the order of their letters: macros 1-2, 1-3 .. 2-3 .., then macro 1 with fix 1, 2 .., macro 2 with fix 1 ..
unfoldable pub couples_of : List Mac → List Fix → List Couple
couples_of ms fs = mac_couples 1 ms ++ fix_couples 1 ms fs

-- the pairs of a chip
abbrev pub couples : Chip → List Couple
couples c = couples_of c.macs c.fixes

-- two macros: x_b - x_a ≥ w_a, or x_a - x_b ≥ w_b; a macro and a fix: 0 - x_a ≥ w_a - x_f, or x_a - 0 ≥ x_f + w_f
abbrev pub pair_slot : Direction → Asked → Couple → Slot
pair_slot d before (two_macs i a j b) = bound i j (pos (mac_side d a))
pair_slot d after (two_macs i a j b) = bound j i (pos (mac_side d b))
pair_slot d before (mac_fix i a f) = bound i 0 (pos (mac_side d a) -ℤ pos (fix_corner d f))
pair_slot d after (mac_fix i a f) = bound 0 i (pos (fix_corner d f + fix_side d f))
pair_slot d nothing q = free

abbrev pub pair_slots : Direction → List Letter → List Couple → List Slot
pair_slots d ls qs = zip_with (λ (l : Letter) (q : Couple). pair_slot d (asked d l) q) ls qs

-- ---- the slots of pins

-- for each pin, a pad having 0 in place of x_i: hi - x_i ≥ x, x_i - lo ≥ -x
abbrev pub pin_slots : Direction → ℕ → ℕ → List Pin → List Slot
pin_slots d hi lo ps = flat_map (λ (p : Pin). bound p.m hi (pin_place d p) ∷ bound lo p.m (neg_ℤ (pin_place d p)) ∷ []) ps

-- the nets from the one on whose hi is node h
unfoldable pub net_slots : Direction → ℕ → List Net → List Slot
net_slots d h [] = []
net_slots d h (t ∷ ts) = pin_slots d h (suc h) t.pins ++ net_slots d (suc (suc h)) ts

-- the first net's hi stands after the macros
abbrev pub first_hi : Chip → ℕ
first_hi c = suc (length c.macs)

-- the slots of one direction
unfoldable pub slots_on : Direction → Chip → List Letter → List Slot
slots_on d c ls = mac_slots d c.die 1 c.macs ++ (pair_slots d ls (couples c) ++ net_slots d (first_hi c) c.nets)
