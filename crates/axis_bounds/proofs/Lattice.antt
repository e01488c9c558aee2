-- Two lists of coordinates on an axis, and the lists of the smaller and of the larger of each two: what both keep these keep too, and their nets together are no longer.
use Prim.Native.Nat.{ℕ, zero, suc, ◌+◌, ◌*◌, ◌≤◌, min, max}
use mathlib.Core.Path.{◌≡◌, refl, ◌∙◌, sym}
use mathlib.Core.List.{List, [], ◌∷◌}
use native.Mathlib.Nat.{mul-le-mul_right}
use native.Mathlib.Omega.{arith}
use lib.ListN.{get_or}
use Rattle.num_laws.specs.Spread.{spread}
use Rattle.num_laws.proofs.Lattice.{Extremes, extremes_spread}
use Rattle.axis_bounds.specs.declared.Slot.{Slot}
use Rattle.axis_bounds.specs.declared.AxisPin.{AxisPin}
use Rattle.axis_bounds.specs.Axis.{NetOn, Axis, no_slot, no_pin, value_at, KeepsSlot, Keeps, places, nets_length, length_on}
use Rattle.axis_bounds.proofs.Places.{length_places, place_at_law}

module _ (y₁ y₂ low high : List ℕ) (e : Extremes y₁ y₂ low high) where
  low_value : (k : ℕ) → value_at low k ≡ min (value_at y₁ k) (value_at y₂ k)
  low_value zero = refl
  low_value (suc i) = e.low i

  high_value : (k : ℕ) → value_at high k ≡ max (value_at y₁ k) (value_at y₂ k)
  high_value zero = refl
  high_value (suc i) = e.high i

  -- a bound that both keep
  module _ (s : Slot) (p : KeepsSlot y₁ s) (q : KeepsSlot y₂ s) where
    low_slot : KeepsSlot low s
    low_slot = let t = low_value s.tail in let h = low_value s.head in let a = p.le in let b = q.le in record { le = omega arith }

    high_slot : KeepsSlot high s
    high_slot = let t = high_value s.tail in let h = high_value s.head in let a = p.le in let b = q.le in record { le = omega arith }

  module _ (a : Axis) (p : Keeps a y₁) (q : Keeps a y₂) where
    pub low_keeps : Keeps a low
    low_keeps =
        record {
          long = e.lesser ∙ p.long;
          size = λ i l. let h = e.low i in let u = p.size i l in let v = q.size i l in omega arith;
          pair = λ j l. low_slot (get_or a.pairs j no_slot) (p.pair j l) (q.pair j l);
        }

    pub high_keeps : Keeps a high
    high_keeps =
        record {
          long = e.greater ∙ p.long;
          size = λ i l. let h = e.high i in let u = p.size i l in let v = q.size i l in omega arith;
          pair = λ j l. high_slot (get_or a.pairs j no_slot) (p.pair j l) (q.pair j l);
        }

  -- the places of pins are again the smaller and the larger of each two
  places_extremes : (ps : List AxisPin) → Extremes (places y₁ ps) (places y₂ ps) (places low ps) (places high ps)
  places_extremes ps =
      record {
        other = length_places y₂ ps ∙ sym (length_places y₁ ps);
        lesser = length_places low ps ∙ sym (length_places y₁ ps);
        greater = length_places high ps ∙ sym (length_places y₁ ps);
        low = λ i. let a = place_at_law y₁ ps i in let b = place_at_law y₂ ps i in let c = place_at_law low ps i in let v = low_value (get_or ps i no_pin).node in omega arith;
        high = λ i. let a = place_at_law y₁ ps i in let b = place_at_law y₂ ps i in let c = place_at_law high ps i in let v = high_value (get_or ps i no_pin).node in omega arith;
      }

  nets_extremes : (ts : List NetOn) → nets_length low ts + nets_length high ts ≤ nets_length y₁ ts + nets_length y₂ ts
  unfolding nets_length
  nets_extremes [] = omega arith
  nets_extremes (t ∷ ts) =
      let h = nets_extremes ts in
      let l = spread (places low t.pins) in let g = spread (places high t.pins) in let u = spread (places y₁ t.pins) in let v = spread (places y₂ t.pins) in
      let p : (l + g) * t.weight ≤ (u + v) * t.weight = mul-le-mul_right t.weight (extremes_spread _ _ _ _ (places_extremes t.pins)) in
      omega arith

  pub lengths_extremes : (a : Axis) → length_on a low + length_on a high ≤ length_on a y₁ + length_on a y₂
  lengths_extremes a = nets_extremes a.nets
