-- The nets of the arrays: where an entry stands among the pins of its net, and the length of all nets.
use Prim.Native.Nat.{ℕ, zero, suc, ◌+◌, ◌*◌, ◌≤◌, ◌<◌}
use mathlib.Core.Path.{◌≡◌, refl, ap, ◌∙◌}
use mathlib.Core.List.{List, ◌∷◌}
use native.Mathlib.Decide.{ℕ_discrete}
use native.Mathlib.Omega.{arith}
use lib.ListN.{length, get_or}
use borrow.Author.Tests.{eq-eqb, ne_eqb}
use Rattle.num_laws.specs.Sum.{sum}
use Rattle.num_laws.specs.Spread.{top, bottom, spread}
use Rattle.num_laws.proofs.Sums.{sum_eq, sum_first}
use Rattle.num_laws.proofs.Spreads.{each_le_top, bottom_le_each}
use Rattle.axis_bounds.specs.declared.AxisPin.{AxisPin}
use Rattle.axis_bounds.specs.Axis.{nets_length, places, place_of, value_at, no_pin}
use Rattle.axis_bounds.proofs.Places.{length_places, place_at_law}
use Rattle.half_arrays.specs.Arrays.{entry_count, node_at, most_at, least_at, net_at, weight_at, pin_at, entry_pins, nets_from}

-- pin p stands in the list
record Stands (ps : List AxisPin) (p : AxisPin) : Type 0 where
  place : ℕ
  lt : place < length ps
  is : get_or ps place no_pin ≡ p

-- the two pins of an entry stand in the list
record Stand (ps : List AxisPin) (p q : AxisPin) : Type 0 where
  first : Stands ps p
  second : Stands ps q

on : (a : AxisPin) (ps : List AxisPin) (p : AxisPin) → Stands ps p → Stands (a ∷ ps) p
on a ps p s = record { place = suc s.place; lt = let l = s.lt in omega arith; is = s.is }

stand_on : (a b : AxisPin) (ps : List AxisPin) (p q : AxisPin) → Stand ps p q → Stand (a ∷ b ∷ ps) p q
stand_on a b ps p q s = record { first = on a (b ∷ ps) p (on b ps p s.first); second = on a (b ∷ ps) q (on b ps q s.second) }

module _ (tab : List ℕ) (e : ℕ) where
  abbrev Entered : ℕ → Type 0
  Entered k = Stand (entry_pins tab (net_at tab e) k) (pin_at (node_at tab e) (most_at tab e)) (pin_at (node_at tab e) (least_at tab e))

  entered : (k : ℕ) → e < k → Entered k
  unfolding entry_pins
  entered zero l = absurd (omega arith)
  entered (suc k) l = by (ℕ_discrete e k) (ℕ_discrete (net_at tab k) (net_at tab e)) (λ q. entered k q)
    where
      by : Dec (e ≡ k) → Dec (net_at tab k ≡ net_at tab e) → (e < k → Entered k) → Entered (suc k)
      by (yes q) d ih = rw (q, eq-eqb (net_at tab k) (net_at tab k) refl) (record { first = record { place = 0; lt = omega arith; is = refl }; second = record { place = 1; lt = omega arith; is = refl } })
      by (no n) (yes d) ih = rw (eq-eqb (net_at tab k) (net_at tab e) d) (stand_on _ _ _ _ _ (ih (omega arith)))
      by (no n) (no d) ih = rw (ne_eqb (net_at tab k) (net_at tab e) d) (ih (omega arith))

module _ (tab y : List ℕ) where
  -- the places of net j
  abbrev places_at : ℕ → List ℕ
  places_at j = places y (entry_pins tab j (entry_count tab))

  abbrev pub top_on : ℕ → ℕ
  top_on j = top (places_at j)

  abbrev pub bottom_on : ℕ → ℕ
  bottom_on j = bottom (places_at j)

  abbrev pub spread_on : ℕ → ℕ
  spread_on j = spread (places_at j)

  nets_sum : (j k : ℕ) → nets_length y (nets_from tab j k) ≡ sum (λ i. spread_on (j + i) * weight_at tab (j + i)) k
  unfolding nets_from nets_length sum
  nets_sum j zero = refl
  nets_sum j (suc k) =
      let q = nets_sum (suc j) k in
      let p = sum_first (λ i. spread_on (j + i) * weight_at tab (j + i)) k in
      let r = sum_eq (λ i. spread_on (suc j + i) * weight_at tab (suc j + i)) (λ i. spread_on (j + suc i) * weight_at tab (j + suc i)) k (λ i l. ap (λ (t : ℕ). spread_on t * weight_at tab t) (omega arith)) in
      let s : spread_on (j + 0) * weight_at tab (j + 0) ≡ spread_on j * weight_at tab j = ap (λ (t : ℕ). spread_on t * weight_at tab t) (omega arith) in
      omega arith

  -- the length of all nets
  pub nets_length_law : nets_length y (nets_from tab 0 32) ≡ sum (λ j. spread_on j * weight_at tab j) 32
  nets_length_law =
      let p = nets_sum 0 32 in
      let q = sum_eq (λ i. spread_on (0 + i) * weight_at tab (0 + i)) (λ j. spread_on j * weight_at tab j) 32 (λ j r. ap (λ (t : ℕ). spread_on t * weight_at tab t) (omega arith)) in
      omega arith

  -- a pin among the places of net j
  pin_place_law : (j : ℕ) (p : AxisPin) (s : Stands (entry_pins tab j (entry_count tab)) p) → get_or (places_at j) s.place 0 ≡ place_of y p
  pin_place_law j p s = place_at_law y (entry_pins tab j (entry_count tab)) s.place ∙ ap (place_of y) s.is

  pin_in_law : (j : ℕ) (p : AxisPin) (s : Stands (entry_pins tab j (entry_count tab)) p) → s.place < length (places_at j)
  pin_in_law j p s = let n = length_places y (entry_pins tab j (entry_count tab)) in let l = s.lt in omega arith

  module _ (e : ℕ) (l : e < entry_count tab) where
    pub under_top : value_at y (node_at tab e) + most_at tab e ≤ top_on (net_at tab e)
    under_top =
        let s = (entered tab e (entry_count tab) l).first in
        let t = each_le_top (places_at (net_at tab e)) s.place (pin_in_law (net_at tab e) _ s) in
        let a = pin_place_law (net_at tab e) _ s in
        omega arith

    pub over_bottom : bottom_on (net_at tab e) ≤ value_at y (node_at tab e) + least_at tab e
    over_bottom =
        let s = (entered tab e (entry_count tab) l).second in
        let t = bottom_le_each (places_at (net_at tab e)) s.place (pin_in_law (net_at tab e) _ s) in
        let a = pin_place_law (net_at tab e) _ s in
        omega arith
