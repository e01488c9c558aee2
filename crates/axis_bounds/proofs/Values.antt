-- Values of the nodes from the macros' coordinates: they hold on the graph, and their nets are as long.
use Prim.Native.Nat.{ℕ, zero, suc, ◌+◌, ◌*◌, ◌≤◌, ◌<◌}
use mathlib.Core.Path.{◌≡◌, refl, ap, ◌∙◌}
use mathlib.Core.List.{List, [], ◌∷◌, ◌++◌, map}
use native.Mathlib.Omega.{arith}
use lib.ListN.{length, get_or, length-map, get_or-append}
use lib.Seq.{get_or-append-add}
use Rattle.num_laws.proofs.Sums.{sum_eq, sum_add}
use Rattle.num_laws.specs.Spread.{top, bottom}
use Rattle.num_laws.proofs.Spreads.{AtMost, top_bottom, each_le_top, bottom_le_each, top_le}
use Rattle.flow_laws.specs.Flow.{weigh}
use Rattle.axis_bounds.specs.Axis.{Axis, NetOn, bare_net, value_at, Keeps, places, length_on, WellFormed}
use Rattle.axis_bounds.specs.Listed.{amount, hi_node, lo_node, weight_of}
use Rattle.axis_bounds.specs.Graph.{graph_slots, macro_slots, Holds, upper, lower}
use Rattle.axis_bounds.proofs.Sorts.{pins_on, OfMacros, OfPins, OfEnds, macros_each, graph_each}
use Rattle.axis_bounds.proofs.Limits.{KeptBy, each_holds}
use Rattle.axis_bounds.proofs.Places.{length_places, place_at_law, net_length, length_sum}

-- the greatest and the least place of each net
unfoldable pub net_values : List ℕ → List NetOn → List ℕ
net_values y [] = []
net_values y (t ∷ ts) = top (places y t.pins) ∷ bottom (places y t.pins) ∷ net_values y ts

-- the base, and each coordinate held higher by it
unfoldable pub macro_values : Axis → List ℕ → List ℕ
macro_values a y = a.base ∷ map (λ v. a.base + v) y

unfoldable pub graph_values : Axis → List ℕ → List ℕ
graph_values a y = macro_values a y ++ net_values y a.nets

net_top : (y : List ℕ) (ts : List NetOn) (j k : ℕ) → k ≡ 2 * j → j < length ts → amount (net_values y ts) k ≡ top (places y (get_or ts j bare_net).pins)
unfolding net_values
net_top y [] j k e l = absurd (omega arith)
net_top y (t ∷ ts) zero zero e l = refl
net_top y (t ∷ ts) zero (suc k) e l = absurd (omega arith)
net_top y (t ∷ ts) (suc j) zero e l = absurd (omega arith)
net_top y (t ∷ ts) (suc j) (suc zero) e l = absurd (omega arith)
net_top y (t ∷ ts) (suc j) (suc (suc k)) e l = net_top y ts j k (omega arith) (omega arith)

net_bottom : (y : List ℕ) (ts : List NetOn) (j k : ℕ) → k ≡ suc (2 * j) → j < length ts → amount (net_values y ts) k ≡ bottom (places y (get_or ts j bare_net).pins)
unfolding net_values
net_bottom y [] j k e l = absurd (omega arith)
net_bottom y (t ∷ ts) j zero e l = absurd (omega arith)
net_bottom y (t ∷ ts) zero (suc zero) e l = refl
net_bottom y (t ∷ ts) zero (suc (suc k)) e l = absurd (omega arith)
net_bottom y (t ∷ ts) (suc j) (suc zero) e l = absurd (omega arith)
net_bottom y (t ∷ ts) (suc j) (suc (suc k)) e l = net_bottom y ts j k (omega arith) (omega arith)

module _ (a : Axis) (y : List ℕ) (long : length y ≡ length a.sizes) where
  length_macro_values : length (macro_values a y) ≡ suc (length a.sizes)
  unfolding macro_values
  length_macro_values = let p = length-map y (λ v. a.base + v) in omega arith

  pub macro_value : (k : ℕ) → k ≤ length a.sizes → amount (macro_values a y) k ≡ a.base + value_at y k
  unfolding macro_values
  macro_value zero l = omega arith
  macro_value (suc i) l = each y i (omega arith)
    where
      each : (s : List ℕ) (i : ℕ) → i < length s → get_or (map (λ v. a.base + v) s) i 0 ≡ a.base + get_or s i 0
      each [] i l = absurd (omega arith)
      each (v ∷ s) zero l = refl
      each (v ∷ s) (suc i) l = each s i (omega arith)

  pub value_of : (k : ℕ) → k ≤ length a.sizes → amount (graph_values a y) k ≡ a.base + value_at y k
  unfolding graph_values
  value_of k l = let e = length_macro_values in get_or-append (macro_values a y) (net_values y a.nets) 0 k (omega arith) ∙ macro_value k l

  module _ (j : ℕ) (l : j < length a.nets) where
    pub value_hi : amount (graph_values a y) (hi_node (length a.sizes) j) ≡ top (places y (pins_on a j))
    unfolding graph_values
    value_hi =
        let e = length_macro_values in
        ap (amount (graph_values a y)) (omega arith) ∙ get_or-append-add (macro_values a y) (net_values y a.nets) (2 * j) 0 ∙ net_top y a.nets j (2 * j) refl l

    pub value_lo : amount (graph_values a y) (lo_node (length a.sizes) j) ≡ bottom (places y (pins_on a j))
    unfolding graph_values
    value_lo =
        let e = length_macro_values in
        ap (amount (graph_values a y)) (omega arith) ∙ get_or-append-add (macro_values a y) (net_values y a.nets) (suc (2 * j)) 0 ∙ net_bottom y a.nets j (suc (2 * j)) refl l

  -- the weighed values of the nets' ends differ by the length
  pub values_length : upper a (graph_values a y) ≡ lower a (graph_values a y) + length_on a y
  unfolding upper lower weigh
  values_length =
      let c = length a.nets in
      let p = length_sum y a.nets in
      let q = sum_add (λ j. amount (graph_values a y) (lo_node (length a.sizes) j) * weight_of a j) (net_length y a.nets) c in
      let r = sum_eq (λ j. amount (graph_values a y) (hi_node (length a.sizes) j) * weight_of a j) (λ j. amount (graph_values a y) (lo_node (length a.sizes) j) * weight_of a j + net_length y a.nets j) c (λ j l. each j (value_hi j l) (value_lo j l)) in
      omega arith
    where
      each : (j : ℕ) {h o : ℕ} → h ≡ top (places y (pins_on a j)) → o ≡ bottom (places y (pins_on a j)) → h * weight_of a j ≡ o * weight_of a j + net_length y a.nets j
      each j e f = let g = top_bottom (places y (pins_on a j)) in rw (e, f, g) (omega arith)

-- what the coordinates keep, the values of macros and pairs keep
pub value_macros : (a : Axis) → WellFormed a → (y : List ℕ) → Keeps a y → (x : List ℕ) → ((k : ℕ) → k ≤ length a.sizes → amount x k ≡ a.base + value_at y k) → OfMacros a (KeptBy x)
value_macros a fine y kp x at =
    record {
      rise = λ i l. let b = at 0 (omega arith) in let c = at (suc i) l in record { le = omega arith };
      fall = λ i l. let b = at 0 (omega arith) in let c = at (suc i) l in let s = kp.size i l in record { le = omega arith };
      pair = λ j l. let p = fine.pair j l in let b = at _ p.tail in let c = at _ p.head in let s = (kp.pair j l).le in record { le = omega arith };
    }

module _ (a : Axis) (fine : WellFormed a) (y : List ℕ) (kp : Keeps a y) where
  -- values for the slots of macros and pairs
  pub macro_values_law : Holds (macro_slots a) (macro_values a y)
  macro_values_law = each_holds _ _ (macros_each a _ (value_macros a fine y kp (macro_values a y) (macro_value a y kp.long)))

  value_pins : OfPins a (KeptBy (graph_values a y))
  value_pins =
      record {
        high = λ j l i q.
            let n = value_of a y kp.long _ ((fine.net j l).pin i q).node in
            let h = value_hi a y kp.long j l in
            let e = length_places y (pins_on a j) in
            let b = each_le_top (places y (pins_on a j)) i (omega arith) in
            let c = place_at_law y (pins_on a j) i in
            record { le = omega arith };
        low = λ j l i q.
            let n = value_of a y kp.long _ ((fine.net j l).pin i q).node in
            let h = value_lo a y kp.long j l in
            let e = length_places y (pins_on a j) in
            let b = bottom_le_each (places y (pins_on a j)) i (omega arith) in
            let c = place_at_law y (pins_on a j) i in
            record { le = omega arith };
      }

  -- a pin lies at most 16384 above a macro in the die
  places_most : (j : ℕ) → j < length a.nets → AtMost 24576 (places y (pins_on a j))
  places_most j l =
      record {
        at = λ i q.
            let e = length_places y (pins_on a j) in
            let c = place_at_law y (pins_on a j) i in
            let p = (fine.net j l).pin i (omega arith) in
            let u = p.up in
            let n = node_most _ p.node in
            omega arith;
      }
    where
      node_most : (k : ℕ) → k ≤ length a.sizes → value_at y k ≤ 8192
      node_most zero l = omega arith
      node_most (suc i) l = let s = kp.size i l in let d = fine.side in omega arith

  value_ends : OfEnds a (KeptBy (graph_values a y))
  value_ends =
      record {
        high = λ j l. let h = value_hi a y kp.long j l in let b = top_le 24576 _ (places_most j l) in record { le = omega arith };
        low = λ j l. let z = value_of a y kp.long 0 (omega arith) in let b = fine.base in record { le = omega arith };
      }

  -- values for the slots of the graph
  pub graph_values_law : Holds (graph_slots a) (graph_values a y)
  graph_values_law = each_holds _ _ (graph_each a _ (value_macros a fine y kp (graph_values a y) (value_of a y kp.long)) value_pins value_ends)
