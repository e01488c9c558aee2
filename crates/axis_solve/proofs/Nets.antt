-- The nets of the axis that is held as a value: the values that the whole graph starts from, and the answer.
use mathlib.Core.Path.{◌≡◌, refl, sym, subst}
use mathlib.Core.List.{List}
use Prim.Native.Nat.{ℕ, suc, ◌+◌, ◌≤◌, ◌<◌}
use native.Mathlib.Decide.{dec_lt}
use native.Mathlib.Omega.{arith}
use lib.ListN.{length, get_or}
use Rattle.axis_bounds.specs.declared.AxisPin.{AxisPin}
use Rattle.axis_bounds.specs.declared.Axis.{Axis as HeldAxis}
use Rattle.axis_bounds.specs.Axis.{Axis, no_pin, no_net, axis_of}
use Rattle.axis_bounds.specs.Listed.{slot, tails, heads, hi_node, lo_node}
use Rattle.axis_bounds.specs.Graph.{graph_slots, macro_slots, Holds as HoldsList}
use Rattle.axis_bounds.specs.Held.{pins_before, Held}
use Rattle.axis_bounds.proofs.Counts.{few_slots}
use Rattle.axis_bounds.proofs.Members.{Each}
use Rattle.axis_bounds.proofs.Sorts.{pins_on, pin_on, OfMacros, OfEnds, each_macros, graph_each}
use Rattle.axis_bounds.proofs.Limits.{KeptBy, each_holds, macro_tails, macro_heads, mac_from, mac_to}
use Rattle.axis_graph.specs.declared.Graph.{Graph}
use Rattle.axis_graph.specs.Limits.{farthest, low_most}
use Rattle.axis_graph.specs.Graph.{at, ValuesWithin}
use Rattle.axis_solve.specs.Growth.{Spread, Shifted}
use Rattle.axis_solve.specs.Admit.{Feasible}
use Rattle.axis_graph.specs.Build.{macro_graph, whole_graph}
use Rattle.axis_solve.specs.Start.{NetsIn, Around, Resting, Started}
use Rattle.axis_held.proofs.NetPins.{pins_next, count_held, pin_held}
use Rattle.axis_held.proofs.HeldAxes.{Shaped, held_base, held_pin_law}
use Rattle.axis_graph.proofs.Graphs.{list_holds, array_holds, few_macros, whole_near}
use Rattle.axis_held.proofs.HeldGraphs.{n_is, t_is}

module _ (a : HeldAxis) (sh : Shaped a) (h : Held a) where
  abbrev b : Axis
  b = axis_of a

  base_is : (axis_of a).base ≡ a.base
  unfolding axis_of
  base_is = refl

  count_is : (j : ℕ) → j < a.t → length (pins_on (axis_of a) j) ≡ (get_or a.nets j no_net).pins
  unfolding axis_of
  count_is j l = count_held a.nets a.pins a.t (let q = h.nets in let e = sh.nets in omega arith) j l (let q = h.pins in let e = sh.pins in omega arith)

  pin_is : (j : ℕ) → j < a.t → (i : ℕ) → i < length (pins_on (axis_of a) j) → pin_on (axis_of a) j i ≡ get_or a.pins (pins_before j a.nets + i) no_pin
  unfolding axis_of
  pin_is j l i m = pin_held a.nets a.pins a.t (let q = h.nets in let e = sh.nets in omega arith) j l (let q = h.pins in let e = sh.pins in omega arith) i (let c = count_is j l in omega arith)

  -- ---- values that keep the slots of macros and pairs, moved together

  module _ (x : List ℕ) (free : Feasible (macro_graph (axis_of a)) x) where
    pub nets_small : ValuesWithin x
    nets_small = record { most = λ k. let q = free.low k in omega arith }

    pub nets_spread : Spread x (a.n + 1)
    nets_spread =
        let e = n_is a sh h in
        record { near = λ k l. (free.near.near x free.holds 0 k (omega arith) (omega arith), free.near.near x free.holds k 0 (omega arith) (omega arith)) }

    x_holds : HoldsList (macro_slots b) x
    x_holds = list_holds (macro_slots b) (few_macros b h.fine) (length (macro_slots b)) (omega arith) x free.holds

    module _ (y : List ℕ) (s : Shifted (at x 0) x y (a.n + 1)) where
      moved : (k : ℕ) → k < suc (length b.sizes) → at y k + at x 0 ≡ at x k + farthest
      moved k l = s.moved k (let e = n_is a sh h in omega arith)

      y_each : Each (KeptBy y) (macro_slots b)
      y_each = record { at = λ i l. record { le = let p = x_holds.le i l in let q = moved (tails (macro_slots b) i) ((macro_tails b h.fine).lt i l) in let r = moved (heads (macro_slots b) i) ((macro_heads b h.fine).lt i l) in omega arith } }

      y_macros : OfMacros b (KeptBy y)
      y_macros = each_macros b (KeptBy y) y_each

      y_zero : at y 0 ≡ farthest
      y_zero = let p = moved 0 (omega arith) in omega arith

      y_from : (k : ℕ) → k ≤ a.n → farthest ≤ at y k
      y_from k l = let p = mac_from b h.fine y y_macros k (let e = n_is a sh h in omega arith) in let z = y_zero in omega arith

      y_to : (k : ℕ) → k ≤ a.n → at y k ≤ farthest + 8192
      y_to k l = let p = mac_to b h.fine y y_macros k (let e = n_is a sh h in omega arith) in let z = y_zero in let q = h.fine.side in omega arith

      pub nets_resting : Resting y
      nets_resting = record { most = λ k. by k (dec_lt k (a.n + 1)) }
        where
          by : (k : ℕ) → Dec (k < a.n + 1) → at y k ≤ low_most
          by k (yes l) = let p = y_to k (omega arith) in omega arith
          by k (no n) = let p = s.rest k (omega arith) in let q = free.low k in omega arith

      pub nets_in_law : NetsIn y a.nets a.pins a.t
      nets_in_law =
          record {
            at = λ j l.
                let m = h.macs in
                let q = held_pin_law a sh h j l in
                record {
                  node = λ i u v. let o = (q.at i u v).node in omega arith;
                  low = λ i u v. let o = y_from _ (q.at i u v).node in omega arith;
                  high = λ i u v. let o = y_to _ (q.at i u v).node in let w = (q.at i u v).up in omega arith;
                };
          }

      -- ---- the values of the nets' ends

      module _ (z : List ℕ) (st : Started a.n a.base a.nets a.pins y z a.t) where
        z_same : (k : ℕ) → k < suc (length b.sizes) → at z k ≡ at y k
        z_same k l = st.same k (let e = n_is a sh h in omega arith)

        z_macros : OfMacros b (KeptBy z)
        z_macros =
            each_macros b (KeptBy z)
            (record { at = λ i l. record { le = let p = (y_each.at i l).le in let q = z_same (tails (macro_slots b) i) ((macro_tails b h.fine).lt i l) in let r = z_same (heads (macro_slots b) i) ((macro_heads b h.fine).lt i l) in omega arith } })

        -- what Started says of net j, at the nodes of the graph
        around : (j : ℕ) → j < length b.nets → Around y a.pins (pins_before j a.nets) (pins_before (suc j) a.nets) (at z (lo_node (length b.sizes) j) + a.base) (at z (hi_node (length b.sizes) j) + a.base)
        around j l =
            subst (λ (n : ℕ). Around y a.pins (pins_before j a.nets) (pins_before (suc j) a.nets) (at z (lo_node n j) + a.base) (at z (hi_node n j) + a.base)) (sym (n_is a sh h))
            (st.net j (let e = t_is a sh h in omega arith))

        module _ (j : ℕ) (l : j < length b.nets) (i : ℕ) (m : i < length (pins_on b j)) where
          abbrev k : ℕ
          k = pins_before j a.nets + i

          jt : j < a.t
          jt = let e = t_is a sh h in omega arith

          in_net : k < pins_before (suc j) a.nets
          in_net = let c = count_is j jt in let p = pins_next j a.nets in omega arith

          z_pin : at z (get_or a.pins k no_pin).node ≡ at y (get_or a.pins k no_pin).node
          z_pin = st.same _ ((held_pin_law a sh h j jt).at k (omega arith) in_net).node

          high : KeptBy z (slot (pin_on b j i).node (hi_node (length b.sizes) j) (pin_on b j i).up b.base)
          high =
              subst (λ (q : AxisPin). KeptBy z (slot q.node (hi_node (length b.sizes) j) q.up b.base)) (sym (pin_is j jt i m))
              (record { le = let p = (around j l).high k (omega arith) in_net in let q = z_pin in let e = base_is in omega arith })

          low : KeptBy z (slot (lo_node (length b.sizes) j) (pin_on b j i).node b.base (pin_on b j i).up)
          low =
              subst (λ (q : AxisPin). KeptBy z (slot (lo_node (length b.sizes) j) q.node b.base q.up)) (sym (pin_is j jt i m))
              (record { le = let p = (around j l).low k (omega arith) in_net in let q = z_pin in let e = base_is in omega arith })

        z_ends : OfEnds b (KeptBy z)
        z_ends =
            let o = held_base a sh h in
            let p = z_same 0 (omega arith) in
            let q = y_zero in
            record {
              high = λ j l. record { le = let u = (around j l).top in omega arith };
              low = λ j l. record { le = let u = (around j l).bottom in omega arith };
            }

        z_free : Feasible (whole_graph b) z
        z_free =
            record {
              holds = array_holds (graph_slots b) (few_slots b h.fine) (length (graph_slots b)) z (each_holds (graph_slots b) z (graph_each b (KeptBy z) z_macros (record { high = high; low = low }) z_ends));
              low = st.most;
              near = whole_near b h.fine;
            }

        pub nets_free : (g : Graph) → g ≡ whole_graph (axis_of a) → Feasible g z
        nets_free g e = subst (λ (u : Graph). Feasible u z) (sym e) z_free
