-- The axis that the solver is given for a direction of a chip: the same bounds as its slots, over natural numbers. Pins are held higher, as in a chip.
use Rattle.std.specs.Prelude.{ℕ, ◌+◌, List, [], ◌∷◌, map, ℤ, pos, ◌+ℤ◌, nat_abs}
use Rattle.model.specs.declared.Spot.{Spot}
use Rattle.model.specs.Meaning.{Pin, Net, Chip, pin_up}
use Rattle.placement.specs.Letters.{Letter}
use Rattle.axis_bounds.specs.declared.Slot.{Slot as HeldSlot}
use Rattle.axis_bounds.specs.declared.AxisPin.{AxisPin}
use Rattle.axis_bounds.specs.Axis.{Axis, NetOn, no_slot}
use Rattle.axis_bounds.specs.Listed.{slot}
use Rattle.fit_slots.specs.declared.Direction.{Direction}
use Rattle.fit_slots.specs.declared.Direction.TheVariants.{Horizontal as horizontal, Vertical as vertical}
use Rattle.fit_slots.specs.declared.Asked.{Asked}
use Rattle.fit_slots.specs.declared.Asked.TheVariants.{Before as before, After as after, Nothing as nothing}
use Rattle.fit_slots.specs.Slots.{die_side, mac_side, fix_side, fix_corner, pin_place, asked, Couple, two_macs, mac_fix, couples}

abbrev pub raised : ℤ → ℕ
raised z = nat_abs (z +ℤ pos pin_up)

abbrev pub axis_pin : Direction → Pin → AxisPin
axis_pin d p = record { node = p.m; up = raised (pin_place d p) }

abbrev pub axis_net : Direction → Net → NetOn
axis_net d t = record { weight = t.weight; pins = map (axis_pin d) t.pins }

-- the slot of macros i and j with sizes w and v, and of macro i with size w and a fix at x with size v
abbrev pub mac_pair : Asked → ℕ → ℕ → ℕ → ℕ → HeldSlot
mac_pair before i w j v = slot i j w 0
mac_pair after i w j v = slot j i v 0
mac_pair nothing i w j v = no_slot

abbrev pub fix_pair : Asked → ℕ → ℕ → ℕ → ℕ → HeldSlot
fix_pair before i w x v = slot i 0 w x
fix_pair after i w x v = slot 0 i (x + v) 0
fix_pair nothing i w x v = no_slot

abbrev pub held_slot : Direction → Asked → Couple → HeldSlot
held_slot d k (two_macs i a j b) = mac_pair k i (mac_side d a) j (mac_side d b)
held_slot d k (mac_fix i a f) = fix_pair k i (mac_side d a) (fix_corner d f) (fix_side d f)

unfoldable pub held_slots : Direction → List Letter → List Couple → List HeldSlot
held_slots d [] qs = []
held_slots d (l ∷ ls) [] = []
held_slots d (l ∷ ls) (q ∷ qs) = held_slot d (asked d l) q ∷ held_slots d ls qs

unfoldable pub axis_for : Direction → Chip → List Letter → Axis
axis_for d c ls =
    record {
      side = die_side d c.die;
      sizes = map (mac_side d) c.macs;
      pairs = held_slots d ls (couples c);
      base = pin_up;
      nets = map (axis_net d) c.nets;
    }

-- the corners' x or y
abbrev pub corner_on : Direction → Spot → ℕ
corner_on horizontal p = p.x
corner_on vertical p = p.y

abbrev pub corners_on : Direction → List Spot → List ℕ
corners_on d ps = map (corner_on d) ps
