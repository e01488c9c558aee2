-- The kinds of slots of an axis: what holds of each kind holds of each slot of the macros, of the list and of the graph, and back.
use Prim.Native.Nat.{ℕ, zero, suc, ◌+◌, ◌-◌, ◌*◌, ◌/◌, ◌%◌, ◌≤◌, ◌<◌}
use mathlib.Core.Path.{◌≡◌, refl, sym, subst, ◌∙◌}
use mathlib.Core.List.{List, ◌++◌, append_assoc}
use native.Mathlib.Decide.{dec_le}
use native.Mathlib.Omega.{arith}
use lib.ListN.{length, get_or}
use Rattle.axis_bounds.specs.declared.Slot.{Slot}
use Rattle.axis_bounds.specs.declared.AxisPin.{AxisPin}
use Rattle.axis_bounds.specs.Axis.{Axis, no_slot, no_pin, bare_net}
use Rattle.axis_bounds.specs.Listed.{slot, die_slots, net_slots, listed, hi_node, lo_node}
use Rattle.axis_bounds.specs.Graph.{far, end_slots, graph_slots, macro_slots}
use Rattle.axis_bounds.proofs.Members.{Each, each_both, each_left, each_right, to_die, of_die, to_nets, of_nets, to_ends, of_ends}

-- the pins of net j, and its pin i
abbrev pub pins_on : Axis → ℕ → List AxisPin
pins_on a j = (get_or a.nets j bare_net).pins

abbrev pub pin_on : Axis → ℕ → ℕ → AxisPin
pin_on a j i = get_or (pins_on a j) i no_pin

-- P of the slots of macros and pairs
pub record OfMacros (a : Axis) (P : Slot → Type 0) : Type 0 where
  pub rise : (i : ℕ) → i < length a.sizes → P (slot 0 (suc i) 0 0)
  pub fall : (i : ℕ) → i < length a.sizes → P (slot (suc i) 0 (get_or a.sizes i 0) a.side)
  pub pair : (j : ℕ) → j < length a.pairs → P (get_or a.pairs j no_slot)

-- P of the slots of pins
pub record OfPins (a : Axis) (P : Slot → Type 0) : Type 0 where
  pub high : (j : ℕ) → j < length a.nets → (i : ℕ) → i < length (pins_on a j) → P (slot (pin_on a j i).node (hi_node (length a.sizes) j) (pin_on a j i).up a.base)
  pub low : (j : ℕ) → j < length a.nets → (i : ℕ) → i < length (pins_on a j) → P (slot (lo_node (length a.sizes) j) (pin_on a j i).node a.base (pin_on a j i).up)

-- P of the slots that limit the nets' ends
pub record OfEnds (a : Axis) (P : Slot → Type 0) : Type 0 where
  pub high : (j : ℕ) → j < length a.nets → P (slot (hi_node (length a.sizes) j) 0 0 far)
  pub low : (j : ℕ) → j < length a.nets → P (slot 0 (lo_node (length a.sizes) j) 0 far)

module _ (a : Axis) where
  -- the slots of the pins and of the ends of the nets
  abbrev pub pin_part : List Slot
  pin_part = net_slots a.base (suc (length a.sizes)) a.nets

  abbrev pub end_part : List Slot
  end_part = end_slots (suc (length a.sizes)) a.nets

  pub listed_is : listed a ≡ macro_slots a ++ pin_part
  unfolding listed macro_slots
  listed_is = sym (append_assoc (die_slots a.side 1 a.sizes) a.pairs pin_part)

  pub graph_is : graph_slots a ≡ listed a ++ end_part
  unfolding graph_slots
  graph_is = refl

  module _ (P : Slot → Type 0) where
    pub macros_each : OfMacros a P → Each P (macro_slots a)
    unfolding macro_slots
    macros_each m =
        each_both P _ _ (to_die P a.side 1 a.sizes (λ j l k e. subst (λ (u : ℕ). P (slot 0 u 0 0) × P (slot u 0 (get_or a.sizes j 0) a.side)) (next e) (m.rise j l, m.fall j l)))
        (record { at = m.pair })
      where
        next : {j k : ℕ} → k ≡ 1 + j → suc j ≡ k
        next e = omega arith

    pub each_macros : Each P (macro_slots a) → OfMacros a P
    unfolding macro_slots
    each_macros h =
        let d = of_die P a.side 1 a.sizes (each_left P _ a.pairs h) in
        record {
          rise = λ i l. (d i l (suc i) (omega arith)).0;
          fall = λ i l. (d i l (suc i) (omega arith)).1;
          pair = λ j l. (each_right P (die_slots a.side 1 a.sizes) a.pairs h).at j l;
        }

    pub pins_each : OfPins a P → Each P pin_part
    pins_each m =
        to_nets P a.base (suc (length a.sizes)) a.nets (λ j l k e. subst (λ (u : ℕ). (i : ℕ) → i < length (pins_on a j) → P (slot (pin_on a j i).node u (pin_on a j i).up a.base) × P (slot (suc u) (pin_on a j i).node a.base (pin_on a j i).up)) (sym e) (λ i q. (m.high j l i q, m.low j l i q)))

    pub each_pins : Each P pin_part → OfPins a P
    each_pins h =
        let d = of_nets P a.base (suc (length a.sizes)) a.nets h in
        record { high = λ j l i q. (d j l _ refl i q).0; low = λ j l i q. (d j l _ refl i q).1 }

    pub ends_each : OfEnds a P → Each P end_part
    ends_each m =
        to_ends P (suc (length a.sizes)) a.nets (λ j l k e. subst (λ (u : ℕ). P (slot u 0 0 far) × P (slot 0 (suc u) 0 far)) (sym e) (m.high j l, m.low j l))

    pub each_ends : Each P end_part → OfEnds a P
    each_ends h =
        let d = of_ends P (suc (length a.sizes)) a.nets h in
        record { high = λ j l. (d j l _ refl).0; low = λ j l. (d j l _ refl).1 }

    -- every slot of the list
    pub listed_each : OfMacros a P → OfPins a P → Each P (listed a)
    listed_each m p = subst (Each P) (sym listed_is) (each_both P _ _ (macros_each m) (pins_each p))

    pub each_listed : Each P (listed a) → OfMacros a P × OfPins a P
    each_listed h =
        let g = subst (Each P) listed_is h in
        (each_macros (each_left P _ pin_part g), each_pins (each_right P (macro_slots a) _ g))

    -- every slot of the graph
    pub graph_each : OfMacros a P → OfPins a P → OfEnds a P → Each P (graph_slots a)
    graph_each m p e = subst (Each P) (sym graph_is) (each_both P _ _ (listed_each m p) (ends_each e))

    pub graph_macros : Each P (graph_slots a) → OfMacros a P
    graph_macros h = (each_listed (each_left P _ end_part (subst (Each P) graph_is h))).0

    pub graph_pins : Each P (graph_slots a) → OfPins a P
    graph_pins h = (each_listed (each_left P _ end_part (subst (Each P) graph_is h))).1

    pub graph_ends : Each P (graph_slots a) → OfEnds a P
    graph_ends h = each_ends (each_right P (listed a) _ (subst (Each P) graph_is h))

-- node k is the die corner or a macro, or an end of a net
module _ (n c : ℕ) (P : ℕ → Type 0) (m : (k : ℕ) → k ≤ n → P k) (h : (j : ℕ) → j < c → P (hi_node n j)) (o : (j : ℕ) → j < c → P (lo_node n j)) where
  past_macros : (k d r : ℕ) → k ≡ suc n + 2 * d + r → r < 2 → d < c → P k
  past_macros k d zero e l g = subst P (sym (e ∙ flat)) (h d g)
    where
      flat : suc n + 2 * d + 0 ≡ suc n + 2 * d
      flat = omega arith
  past_macros k d (suc zero) e l g = subst P (sym (e ∙ flat)) (o d g)
    where
      flat : suc n + 2 * d + 1 ≡ suc (suc n + 2 * d)
      flat = omega arith
  past_macros k d (suc (suc r)) e l g = absurd (omega arith)

  pub by_node : (k : ℕ) → k < suc n + 2 * c → P k
  by_node k l = by (dec_le k n)
    where
      by : Dec (k ≤ n) → P k
      by (yes g) = m k g
      by (no g) = past_macros k ((k - suc n) / 2) ((k - suc n) % 2) (omega arith) (omega arith) (omega arith)
