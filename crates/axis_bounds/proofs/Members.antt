-- Which slots an axis has: a property of each of them, from the kinds of slots, and back.
use Prim.Native.Nat.{ℕ, zero, suc, ◌+◌, ◌-◌, ◌*◌, ◌≤◌, ◌<◌}
use mathlib.Core.Path.{◌≡◌, sym, ap, subst, ◌∙◌}
use mathlib.Core.List.{List, [], ◌∷◌, ◌++◌}
use native.Mathlib.Decide.{dec_lt}
use native.Mathlib.Omega.{arith}
use lib.ListN.{length, get_or, length-append, get_or-append}
use lib.Seq.{get_or-append-add}
use Rattle.axis_bounds.specs.declared.Slot.{Slot}
use Rattle.axis_bounds.specs.declared.AxisPin.{AxisPin}
use Rattle.axis_bounds.specs.Axis.{NetOn, no_slot, no_pin, bare_net}
use Rattle.axis_bounds.specs.Listed.{slot, die_slots, pin_slots, net_slots, slot_at}
use Rattle.axis_bounds.specs.Graph.{far, end_slots}

-- every slot of the list has P
pub record Each (P : Slot → Type 0) (ss : List Slot) : Type 0 where
  pub at : (s : ℕ) → s < length ss → P (slot_at ss s)

-- the slot e stands in the list
pub record Stands (ss : List Slot) (e : Slot) : Type 0 where
  pub index : ℕ
  pub lt : index < length ss
  pub is : slot_at ss index ≡ e

-- where slot s of the second of two lists stands
pub slot_right : (ss ts : List Slot) (s : ℕ) → length ss ≤ s → slot_at (ss ++ ts) s ≡ slot_at ts (s - length ss)
slot_right ss ts s l = ap (slot_at (ss ++ ts)) (omega arith) ∙ get_or-append-add ss ts (s - length ss) no_slot

start : {i k : ℕ} → k ≡ i + 0 → i ≡ k
start e = omega arith

module _ (P : Slot → Type 0) where
  pub each_none : Each P []
  each_none = record { at = λ s l. absurd (omega arith) }

  pub each_more : (e : Slot) (ss : List Slot) → P e → Each P ss → Each P (e ∷ ss)
  each_more e ss p h = record { at = by }
    where
      by : (s : ℕ) → s < suc (length ss) → P (slot_at (e ∷ ss) s)
      by zero l = p
      by (suc s) l = h.at s (omega arith)

  pub each_first : (e : Slot) (ss : List Slot) → Each P (e ∷ ss) → P e
  each_first e ss h = h.at 0 (omega arith)

  pub each_rest : (e : Slot) (ss : List Slot) → Each P (e ∷ ss) → Each P ss
  each_rest e ss h = record { at = λ s l. h.at (suc s) (omega arith) }

  pub each_both : (ss ts : List Slot) → Each P ss → Each P ts → Each P (ss ++ ts)
  each_both ss ts g h = record { at = λ s l. by s l (dec_lt s (length ss)) }
    where
      by : (s : ℕ) → s < length (ss ++ ts) → Dec (s < length ss) → P (slot_at (ss ++ ts) s)
      by s l (yes q) = subst P (sym (get_or-append ss ts no_slot s q)) (g.at s q)
      by s l (no q) = let e = length-append ss ts in subst P (sym (slot_right ss ts s (omega arith))) (h.at (s - length ss) (omega arith))

  pub each_left : (ss ts : List Slot) → Each P (ss ++ ts) → Each P ss
  each_left ss ts h = record { at = λ s l. let e = length-append ss ts in subst P (get_or-append ss ts no_slot s l) (h.at s (omega arith)) }

  pub each_right : (ss ts : List Slot) → Each P (ss ++ ts) → Each P ts
  each_right ss ts h = record { at = λ s l. let e = length-append ss ts in subst P (get_or-append-add ss ts s no_slot) (h.at (length ss + s) (omega arith)) }

  -- the two slots of each macro, the first of which has node i
  abbrev pub DieAt : ℕ → ℕ → List ℕ → Type 0
  DieAt side i ws = (j : ℕ) → j < length ws → (k : ℕ) → k ≡ i + j → P (slot 0 k 0 0) × P (slot k 0 (get_or ws j 0) side)

  pub to_die : (side i : ℕ) (ws : List ℕ) → DieAt side i ws → Each P (die_slots side i ws)
  unfolding die_slots
  to_die side i [] h = each_none
  to_die side i (w ∷ ws) h =
      let p = h 0 (omega arith) i (omega arith) in
      each_more _ _ p.0 (each_more _ _ p.1 (to_die side (suc i) ws (λ j l k e. h (suc j) (omega arith) k (omega arith))))

  pub of_die : (side i : ℕ) (ws : List ℕ) → Each P (die_slots side i ws) → DieAt side i ws
  unfolding die_slots
  of_die side i [] h j l k e = absurd (omega arith)
  of_die side i (w ∷ ws) h zero l k e =
      subst (λ (u : ℕ). P (slot 0 u 0 0) × P (slot u 0 w side)) (start e) (each_first _ _ h, each_first _ _ (each_rest _ _ h))
  of_die side i (w ∷ ws) h (suc j) l k e = of_die side (suc i) ws (each_rest _ _ (each_rest _ _ h)) j (omega arith) k (omega arith)

  -- the two slots of each pin
  abbrev pub PinsAt : ℕ → ℕ → ℕ → List AxisPin → Type 0
  PinsAt base hi lo ps = (i : ℕ) → i < length ps → P (slot (get_or ps i no_pin).node hi (get_or ps i no_pin).up base) × P (slot lo (get_or ps i no_pin).node base (get_or ps i no_pin).up)

  pub to_pins : (base hi lo : ℕ) (ps : List AxisPin) → PinsAt base hi lo ps → Each P (pin_slots base hi lo ps)
  unfolding pin_slots
  to_pins base hi lo [] h = each_none
  to_pins base hi lo (p ∷ ps) h =
      let q = h 0 (omega arith) in each_more _ _ q.0 (each_more _ _ q.1 (to_pins base hi lo ps (λ i l. h (suc i) (omega arith))))

  pub of_pins : (base hi lo : ℕ) (ps : List AxisPin) → Each P (pin_slots base hi lo ps) → PinsAt base hi lo ps
  unfolding pin_slots
  of_pins base hi lo [] h i l = absurd (omega arith)
  of_pins base hi lo (p ∷ ps) h zero l = (each_first _ _ h, each_first _ _ (each_rest _ _ h))
  of_pins base hi lo (p ∷ ps) h (suc i) l = of_pins base hi lo ps (each_rest _ _ (each_rest _ _ h)) i (omega arith)

  -- the slots of each net's pins, the first net having node h as its hi
  abbrev pub NetsAt : ℕ → ℕ → List NetOn → Type 0
  NetsAt base h ts = (j : ℕ) → j < length ts → (k : ℕ) → k ≡ h + 2 * j → PinsAt base k (suc k) (get_or ts j bare_net).pins

  pub to_nets : (base h : ℕ) (ts : List NetOn) → NetsAt base h ts → Each P (net_slots base h ts)
  unfolding net_slots
  to_nets base h [] q = each_none
  to_nets base h (t ∷ ts) q =
      each_both _ _ (to_pins base h (suc h) t.pins (q 0 (omega arith) h (omega arith)))
      (to_nets base (suc (suc h)) ts (λ j l k e. q (suc j) (omega arith) k (omega arith)))

  pub of_nets : (base h : ℕ) (ts : List NetOn) → Each P (net_slots base h ts) → NetsAt base h ts
  unfolding net_slots
  of_nets base h [] q j l k e = absurd (omega arith)
  of_nets base h (t ∷ ts) q zero l k e =
      subst (λ (u : ℕ). PinsAt base u (suc u) t.pins) (start e) (of_pins base h (suc h) t.pins (each_left _ _ q))
  of_nets base h (t ∷ ts) q (suc j) l k e = of_nets base (suc (suc h)) ts (each_right (pin_slots base h (suc h) t.pins) _ q) j (omega arith) k (omega arith)

  -- the two end slots of each net
  abbrev pub EndsAt : ℕ → List NetOn → Type 0
  EndsAt h ts = (j : ℕ) → j < length ts → (k : ℕ) → k ≡ h + 2 * j → P (slot k 0 0 far) × P (slot 0 (suc k) 0 far)

  pub to_ends : (h : ℕ) (ts : List NetOn) → EndsAt h ts → Each P (end_slots h ts)
  unfolding end_slots
  to_ends h [] q = each_none
  to_ends h (t ∷ ts) q =
      let p = q 0 (omega arith) h (omega arith) in
      each_more _ _ p.0 (each_more _ _ p.1 (to_ends (suc (suc h)) ts (λ j l k e. q (suc j) (omega arith) k (omega arith))))

  pub of_ends : (h : ℕ) (ts : List NetOn) → Each P (end_slots h ts) → EndsAt h ts
  unfolding end_slots
  of_ends h [] q j l k e = absurd (omega arith)
  of_ends h (t ∷ ts) q zero l k e =
      subst (λ (u : ℕ). P (slot u 0 0 far) × P (slot 0 (suc u) 0 far)) (start e) (each_first _ _ q, each_first _ _ (each_rest _ _ q))
  of_ends h (t ∷ ts) q (suc j) l k e = of_ends (suc (suc h)) ts (each_rest _ _ (each_rest _ _ q)) j (omega arith) k (omega arith)
