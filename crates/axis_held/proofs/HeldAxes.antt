-- An axis within the limits, as its arrays have it and as its lists have it.
use mathlib.Core.Path.{◌≡◌, sym, ap, subst, ◌∙◌}
use mathlib.Core.Bool.{Bool, true, false, false≢true}
use mathlib.Core.List.{map}
use Prim.Native.Nat.{ℕ, zero, suc, ◌+◌, ◌-◌, ◌≤◌, ◌<◌}
use native.Mathlib.Omega.{arith}
use lib.ListN.{length, get_or, take, length-take, length-map}
use lib.Seq.{get_or-take}
use Rattle.axis_bounds.specs.declared.Slot.{Slot}
use Rattle.axis_bounds.specs.declared.AxisPin.{AxisPin}
use Rattle.axis_bounds.specs.declared.AxisNet.{AxisNet}
use Rattle.axis_bounds.specs.declared.Axis.{Axis as HeldAxis}
use Rattle.axis_bounds.specs.Axis.{no_slot, no_pin, no_net, bare_net, nets_of, axis_of, pin_count, WellFormedPair, WellFormedPin, WellFormedNet, WellFormed}
use Rattle.axis_bounds.specs.Held.{pins_before, Held}
use Rattle.axis_graph.specs.Graph.{Decides}
use Rattle.axis_graph.specs.Above.{NoneAbove}
use Rattle.axis_held.specs.Accept.{PairsTo, PinsTo, NetCounts, NetsTo, FrameTo}
use Rattle.axis_held.proofs.NetPins.{pins_next, pins_within, length_nets, count_all, pins_take, weight_held, count_held, pin_held}

-- an axis whose arrays are as long as its type says
pub record Shaped (a : HeldAxis) : Type 0 where
  pub sizes : length a.sizes ≡ 8
  pub pairs : length a.pairs ≡ 120
  pub nets : length a.nets ≡ 32
  pub pins : length a.pins ≡ 128

-- it is, since images of the arrays are that long
pub shaped : (a : HeldAxis) (A B C D : Type 0) (f : ℕ → A) (g : Slot → B) (h : AxisNet → C) (k : AxisPin → D) → length (map f a.sizes) ≡ 8 → length (map g a.pairs) ≡ 120 → length (map h a.nets) ≡ 32 → length (map k a.pins) ≡ 128 → Shaped a
shaped a A B C D f g h k p q r s =
    record { sizes = sym (length-map a.sizes f) ∙ p; pairs = sym (length-map a.pairs g) ∙ q; nets = sym (length-map a.nets h) ∙ r; pins = sym (length-map a.pins k) ∙ s }

module _ (a : HeldAxis) (sh : Shaped a) where
  pub length_sizes : a.n ≤ 8 → length (axis_of a).sizes ≡ a.n
  unfolding axis_of
  length_sizes l = let e = length-take a.n a.sizes in omega arith

  pub length_pairs : a.p ≤ 120 → length (axis_of a).pairs ≡ a.p
  unfolding axis_of
  length_pairs l = let e = length-take a.p a.pairs in omega arith

  pub length_of_nets : a.t ≤ 32 → length (axis_of a).nets ≡ a.t
  unfolding axis_of
  length_of_nets l = let e = length-take a.t a.nets in let q = length_nets (take a.t a.nets) a.pins in omega arith

  pub count_of_nets : a.t ≤ 32 → pins_before a.t a.nets ≤ 128 → pin_count (axis_of a).nets ≡ pins_before a.t a.nets
  unfolding axis_of
  count_of_nets l m =
      let e : length (take a.t a.nets) ≡ a.t = (let h = length-take a.t a.nets in omega arith) in
      let s : pins_before (length (take a.t a.nets)) (take a.t a.nets) ≡ pins_before a.t a.nets = ap (λ (k : ℕ). pins_before k (take a.t a.nets)) e ∙ pins_take a.t a.t a.nets (omega arith) in
      count_all (take a.t a.nets) a.pins (omega arith) ∙ s

  -- ---- from the arrays to the lists

  module _ (f : FrameTo a) (s : NoneAbove 8192 a.sizes a.n) (p : PairsTo a.n a.pairs a.p) (h : NetsTo a.n a.nets a.pins a.t) where
    few_pins : (t : ℕ) → t ≤ a.t → pins_before t a.nets ≤ 128
    unfolding pins_before
    few_pins zero l = omega arith
    few_pins (suc t) l = let c = (h.at t l).counts in let x = c.some in let y = c.fit in let z = pins_next t a.nets in omega arith

    fine_net : (j : ℕ) → j < a.t → WellFormedNet a.n (get_or (nets_of (take a.t a.nets) a.pins) j bare_net)
    fine_net j l =
        let c = (h.at j l).counts in
        let x = c.some in
        let b = few_pins a.t (omega arith) in
        let k = count_held a.nets a.pins a.t (let o = f.nets in omega arith) j l (omega arith) in
        let z = pins_next j a.nets in
        record {
          low = rw (weight_held a.nets a.pins a.t (let o = f.nets in omega arith) j l) c.low;
          high = rw (weight_held a.nets a.pins a.t (let o = f.nets in omega arith) j l) c.high;
          some = omega arith;
          pin = λ i m. subst (WellFormedPin a.n) (sym (pin_held a.nets a.pins a.t (let o = f.nets in omega arith) j l (omega arith) i (omega arith))) ((h.at j l).pins.at (pins_before j a.nets + i) (omega arith) (omega arith));
        }

    list_pins : pin_count (axis_of a).nets ≤ 128
    list_pins = let q = count_of_nets f.nets (few_pins a.t (omega arith)) in let o = few_pins a.t (omega arith) in omega arith

    list_side : (axis_of a).side ≤ 8192
    unfolding axis_of
    list_side = f.side

    list_base : (axis_of a).base ≤ 16384
    unfolding axis_of
    list_base = f.base

    list_size : (i : ℕ) → i < a.n → get_or (axis_of a).sizes i 0 ≤ 8192
    unfolding axis_of
    list_size i l = rw (get_or-take a.n a.sizes i 0 l) (s.le i l)

    list_pair : (j : ℕ) → j < a.p → WellFormedPair a.n (get_or (axis_of a).pairs j no_slot)
    unfolding axis_of
    list_pair j l = rw (get_or-take a.p a.pairs j no_slot l) (p.at j l)

    list_net : (j : ℕ) → j < a.t → WellFormedNet a.n (get_or (axis_of a).nets j bare_net)
    unfolding axis_of
    list_net j l = fine_net j l

    fine_of : WellFormed (axis_of a)
    fine_of =
        let e = length_sizes f.macs in
        let d = length_pairs f.pairs in
        let b = length_of_nets f.nets in
        record {
          macs = let o = f.macs in omega arith;
          pairs = let o = f.pairs in omega arith;
          nets = let o = f.nets in omega arith;
          pins = list_pins;
          side = list_side;
          base = list_base;
          size = λ i l. list_size i (omega arith);
          pair = λ j l. subst (λ (n : ℕ). WellFormedPair n (get_or (axis_of a).pairs j no_slot)) (sym e) (list_pair j (omega arith));
          net = λ j l. subst (λ (n : ℕ). WellFormedNet n (get_or (axis_of a).nets j bare_net)) (sym e) (list_net j (omega arith));
        }

    held_of : Held a
    held_of = record { macs = f.macs; pairs = f.pairs; nets = f.nets; pins = few_pins a.t (omega arith); fine = fine_of }

  -- ---- from the lists to the arrays

  module _ (h : Held a) where
    pub held_side : a.side ≤ 8192
    unfolding axis_of
    held_side = h.fine.side

    pub held_base : a.base ≤ 16384
    unfolding axis_of
    held_base = h.fine.base

    held_frame : FrameTo a
    held_frame = record { macs = h.macs; pairs = h.pairs; nets = h.nets; side = held_side; base = held_base }

    pub held_size : (i : ℕ) → i < a.n → get_or a.sizes i 0 ≤ 8192
    unfolding axis_of
    held_size i l = let e = length_sizes h.macs in rw (← get_or-take a.n a.sizes i 0 l) (h.fine.size i (omega arith))

    pub held_pair : (j : ℕ) → j < a.p → WellFormedPair a.n (get_or a.pairs j no_slot)
    unfolding axis_of
    held_pair j l =
        let e = length_pairs h.pairs in
        subst (λ (n : ℕ). WellFormedPair n (get_or a.pairs j no_slot)) (length_sizes h.macs)
        (subst (WellFormedPair (length (axis_of a).sizes)) (get_or-take a.p a.pairs j no_slot l) (h.fine.pair j (omega arith)))

    held_net_law : (j : ℕ) → j < a.t → WellFormedNet a.n (get_or (nets_of (take a.t a.nets) a.pins) j bare_net)
    unfolding axis_of
    held_net_law j l = let e = length_of_nets h.nets in subst (λ (n : ℕ). WellFormedNet n (get_or (nets_of (take a.t a.nets) a.pins) j bare_net)) (length_sizes h.macs) (h.fine.net j (omega arith))

    -- a pin of net j, by its place among all pins
    pub held_pin_law : (j : ℕ) → j < a.t → PinsTo a.n a.pins (pins_before j a.nets) (pins_before (suc j) a.nets)
    held_pin_law j l = record { at = λ i m o. by i m o }
      where
        by : (i : ℕ) → pins_before j a.nets ≤ i → i < pins_before (suc j) a.nets → WellFormedPin a.n (get_or a.pins i no_pin)
        by i m o =
            let b = h.nets in
            let r = h.pins in
            let z = pins_next j a.nets in
            let k = count_held a.nets a.pins a.t (omega arith) j l (omega arith) in
            let e = pin_held a.nets a.pins a.t (omega arith) j l (omega arith) (i - pins_before j a.nets) (omega arith) in
            subst (λ (u : ℕ). WellFormedPin a.n (get_or a.pins u no_pin)) (omega arith) (subst (WellFormedPin a.n) e ((held_net_law j l).pin (i - pins_before j a.nets) (omega arith)))

    pub held_weight : (j : ℕ) → j < a.t → (get_or (axis_of a).nets j bare_net).weight ≡ (get_or a.nets j no_net).weight
    unfolding axis_of
    held_weight j l = weight_held a.nets a.pins a.t (let o = h.nets in omega arith) j l

    held_counts : (j : ℕ) → j < a.t → NetCounts (get_or a.nets j no_net) (pins_before j a.nets)
    held_counts j l =
        let b = h.nets in
        let r = h.pins in
        let z = pins_within j a.t a.nets l in
        let f = held_net_law j l in
        let w = weight_held a.nets a.pins a.t (omega arith) j l in
        let k = count_held a.nets a.pins a.t (omega arith) j l (omega arith) in
        let x = f.low in
        let y = f.high in
        let s = f.some in
        record { low = omega arith; high = omega arith; some = omega arith; fit = omega arith }

    held_nets : NetsTo a.n a.nets a.pins a.t
    held_nets = record { at = λ j l. record { counts = held_counts j l; pins = held_pin_law j l } }

    held_sizes : NoneAbove 8192 a.sizes a.n
    held_sizes = record { le = held_size }

    held_pairs : PairsTo a.n a.pairs a.p
    held_pairs = record { at = held_pair }

  -- ---- the test

  pub held_all : (v r : Bool) → Decides v ((FrameTo a × NoneAbove 8192 a.sizes a.n) × PairsTo a.n a.pairs a.p) → v ≡ true → Decides r (NetsTo a.n a.nets a.pins a.t) → Decides r (Held a)
  held_all v r d e n = let p = d.holds e in record { holds = λ t. held_of p.0.0 p.0.1 p.1 (n.holds t); fails = λ t h. n.fails t (held_nets h) }

  pub held_none : (v : Bool) → Decides v ((FrameTo a × NoneAbove 8192 a.sizes a.n) × PairsTo a.n a.pairs a.p) → v ≡ false → Decides v (Held a)
  held_none v d e = record { holds = λ t. absurd (false≢true (sym e ∙ t)); fails = λ t h. d.fails e ((held_frame h, held_sizes h), held_pairs h) }
