-- The macros' coordinates from values that hold: they keep the axis, and their nets are no longer than the values allow.
use Prim.Native.Nat.{ℕ, zero, suc, ◌+◌, ◌*◌, ◌≤◌, ◌<◌}
use mathlib.Core.Path.{◌≡◌}
use mathlib.Core.List.{List}
use native.Mathlib.Nat.{mul-le-mul_right}
use native.Mathlib.Omega.{arith}
use lib.ListN.{length}
use Rattle.num_laws.specs.Spread.{spread}
use Rattle.num_laws.proofs.Sums.{sum_le, sum_add}
use Rattle.num_laws.proofs.Spreads.{spread_between}
use Rattle.flow_laws.specs.Flow.{weigh}
use Rattle.axis_bounds.specs.Axis.{Axis, value_at, Keeps, places, length_on, WellFormed}
use Rattle.axis_bounds.specs.Listed.{amount, hi_node, lo_node, weight_of}
use Rattle.axis_bounds.specs.Graph.{graph_slots, Holds, upper, lower, Coordinates}
use Rattle.axis_bounds.proofs.Sorts.{pins_on, OfMacros, OfPins, graph_macros, graph_pins}
use Rattle.axis_bounds.proofs.Limits.{KeptBy, holds_each}
use Rattle.axis_bounds.proofs.Places.{length_places, place_at_law, net_length, length_sum}

-- a node's value is its coordinate and the value of the die corner
pub shifted : (n : ℕ) (x z : List ℕ) → Coordinates n x z → (k : ℕ) → k ≤ n → value_at z k + amount x 0 ≡ amount x k
shifted n x z c zero l = omega arith
shifted n x z c (suc i) l = c.at i l

module _ (a : Axis) (fine : WellFormed a) (x z : List ℕ) (c : Coordinates (length a.sizes) x z) where
  kept_macros : OfMacros a (KeptBy x) → Keeps a z
  kept_macros m =
      record {
        long = c.long;
        size = λ i l. let p = (m.fall i l).le in let q = c.at i l in omega arith;
        pair = λ j l.
            let p = (m.pair j l).le in
            let f = fine.pair j l in
            let t = shifted _ x z c _ f.tail in
            let h = shifted _ x z c _ f.head in
            record { le = omega arith };
      }

  pub graph_keeps : Holds (graph_slots a) x → Keeps a z
  graph_keeps h = kept_macros (graph_macros a _ (holds_each _ _ h))

  -- hi and lo of net j lie at least its spread apart
  net_between : OfPins a (KeptBy x) → (j : ℕ) → j < length a.nets → amount x (lo_node (length a.sizes) j) + spread (places z (pins_on a j)) ≤ amount x (hi_node (length a.sizes) j)
  net_between p j l =
      let e = length_places z (pins_on a j) in
      let f = fine.net j l in
      let g = f.some in
      let r = spread_between (places z (pins_on a j)) (amount x 0) (amount x (lo_node (length a.sizes) j) + a.base) (amount x (hi_node (length a.sizes) j) + a.base) (omega arith)
      (λ i k. let t = place_at_law z (pins_on a j) i in let u = (p.low j l i (omega arith)).le in let v = shifted _ x z c _ (f.pin i (omega arith)).node in omega arith)
      (λ i k. let t = place_at_law z (pins_on a j) i in let u = (p.high j l i (omega arith)).le in let v = shifted _ x z c _ (f.pin i (omega arith)).node in omega arith)
      in omega arith

  pub length_within : Holds (graph_slots a) x → lower a x + length_on a z ≤ upper a x
  unfolding upper lower weigh
  length_within h =
      let n = length a.nets in
      let p = length_sum z a.nets in
      let q = sum_add (λ j. amount x (lo_node (length a.sizes) j) * weight_of a j) (net_length z a.nets) n in
      let r = sum_le (λ j. amount x (lo_node (length a.sizes) j) * weight_of a j + net_length z a.nets j) (λ j. amount x (hi_node (length a.sizes) j) * weight_of a j) n (λ j l. each j _ _ (net_between (graph_pins a _ (holds_each _ _ h)) j l)) in
      omega arith
    where
      each : (j h o : ℕ) → o + spread (places z (pins_on a j)) ≤ h → o * weight_of a j + net_length z a.nets j ≤ h * weight_of a j
      each j h o e = let t : (o + spread (places z (pins_on a j))) * weight_of a j ≤ h * weight_of a j = mul-le-mul_right (weight_of a j) e in omega arith
