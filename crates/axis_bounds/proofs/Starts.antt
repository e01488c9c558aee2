-- Start values of the nets' ends: the greatest and the least place of each net's pins span their places, and lie not far from the die corner.
use Prim.Native.Nat.{ℕ, zero, suc, ◌+◌, ◌≤◌, ◌<◌}
use mathlib.Core.Path.{◌≡◌, refl}
use mathlib.Core.List.{List, [], ◌∷◌, map}
use native.Mathlib.Omega.{arith}
use lib.ListN.{length, get_or, length-map}
use Rattle.num_laws.specs.Spread.{most, fewest}
use Rattle.num_laws.proofs.Spreads.{each_le_most, fewest_le_each, most_le, le_fewest}
use Rattle.axis_bounds.specs.declared.AxisPin.{AxisPin}
use Rattle.axis_bounds.specs.Axis.{Axis, no_pin, WellFormed}
use Rattle.axis_bounds.specs.Listed.{amount}
use Rattle.axis_bounds.specs.Graph.{far, macro_slots, Holds}
use Rattle.axis_bounds.proofs.Sorts.{pins_on, pin_on, OfMacros, each_macros}
use Rattle.axis_bounds.proofs.Limits.{KeptBy, holds_each, mac_from, mac_to}

-- where a pin lies under the values x, held higher by the base
abbrev pub held_place : List ℕ → AxisPin → ℕ
held_place x p = amount x p.node + p.up

abbrev pub held_places : List ℕ → List AxisPin → List ℕ
held_places x ps = map (held_place x) ps

-- hi and lo span the places of the pins, and lie not far from the die corner
pub record Spans (base : ℕ) (x : List ℕ) (ps : List AxisPin) (hi lo : ℕ) : Type 0 where
  pub over : (i : ℕ) → i < length ps → held_place x (get_or ps i no_pin) ≤ hi + base
  pub under : (i : ℕ) → i < length ps → lo + base ≤ held_place x (get_or ps i no_pin)
  pub high : hi ≤ amount x 0 + far
  pub low : amount x 0 ≤ lo + far

module _ (a : Axis) (fine : WellFormed a) (x : List ℕ) (holds : Holds (macro_slots a) x) where
  macros : OfMacros a (KeptBy x)
  macros = each_macros a _ (holds_each _ _ holds)

  module _ (j : ℕ) (l : j < length a.nets) where
    -- a pin's place lies from the die corner to 24576 above it
    pub held_from_law : (i : ℕ) → i < length (pins_on a j) → amount x 0 ≤ held_place x (pin_on a j i)
    held_from_law i q = let p = mac_from a fine x macros _ ((fine.net j l).pin i q).node in omega arith

    pub held_to : (i : ℕ) → i < length (pins_on a j) → held_place x (pin_on a j i) ≤ amount x 0 + 24576
    held_to i q = let f = (fine.net j l).pin i q in let u = f.up in let p = mac_to a fine x macros _ f.node in let d = fine.side in omega arith

    length_held_law : length (held_places x (pins_on a j)) ≡ length (pins_on a j)
    length_held_law = length-map (pins_on a j) (held_place x)

    held_at : (i : ℕ) → i < length (pins_on a j) → get_or (held_places x (pins_on a j)) i 0 ≡ held_place x (pin_on a j i)
    held_at i q = each (pins_on a j) i q
      where
        each : (ps : List AxisPin) (i : ℕ) → i < length ps → get_or (held_places x ps) i 0 ≡ held_place x (get_or ps i no_pin)
        each [] i q = absurd (omega arith)
        each (p ∷ ps) zero q = refl
        each (p ∷ ps) (suc i) q = each ps i (omega arith)

    module _ (c d : ℕ) (cl : c ≤ amount x 0 + 24576) (dl : amount x 0 ≤ d) where
      pub most_to : most c (held_places x (pins_on a j)) ≤ amount x 0 + 24576
      most_to = most_le _ c _ cl (record { at = λ i q. let e = length_held_law in let t = held_at i (omega arith) in let u = held_to i (omega arith) in omega arith })

      pub fewest_from : amount x 0 ≤ fewest d (held_places x (pins_on a j))
      fewest_from = le_fewest _ d _ dl (record { at = λ i q. let e = length_held_law in let t = held_at i (omega arith) in let u = held_from_law i (omega arith) in omega arith })

      -- the greatest and the least place, where the search for them starts at c and d
      pub spans_of : (hi lo : ℕ) → hi + a.base ≡ most c (held_places x (pins_on a j)) → lo + a.base ≡ fewest d (held_places x (pins_on a j)) → Spans a.base x (pins_on a j) hi lo
      spans_of hi lo h o =
          record {
            over = λ i q. let e = length_held_law in let b = each_le_most c (held_places x (pins_on a j)) i (omega arith) in let t = held_at i q in omega arith;
            under = λ i q. let e = length_held_law in let b = fewest_le_each d (held_places x (pins_on a j)) i (omega arith) in let t = held_at i q in omega arith;
            high = let p = most_to in omega arith;
            low = let p = fewest_from in let b = fine.base in omega arith;
          }
