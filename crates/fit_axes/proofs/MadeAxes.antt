-- The axis made from the parts of a chip: its meaning is the axis of the chip's meaning, and it is within the solver's limits.
use Prim.Native.Nat.{ℕ, zero, suc, ◌+◌, ◌≤◌}
use mathlib.Core.Path.{◌≡◌, refl, sym, ap, subst, ◌∙◌}
use mathlib.Core.List.{List, [], ◌∷◌, map}
use native.Mathlib.Omega.{arith}
use lib.IntN.{sub_ℕ, nat_abs}
use lib.ListN.{length, take, drop, length-drop, length-map}
use Rattle.model.specs.declared.Net.{Net as HeldNet}
use Rattle.model.specs.declared.Pin.{Pin as HeldPin}
use Rattle.model.specs.declared.Chip.{Chip as HeldChip}
use Rattle.model.specs.Meaning.{first_of, blank_net, blank_pin, pin_of, pins_of, chip_of}
use Rattle.model.specs.Meaning as model
use Rattle.model.proofs.FirstOf.{first_take, length_first}
use Rattle.chip_text.specs.Valid as chip
use Rattle.chip_text.proofs.HeldNets.{before_first}
use Rattle.num_laws.proofs.Differences.{sub_up, add_sub}
use Rattle.axis_bounds.specs.declared.Slot.{Slot}
use Rattle.axis_bounds.specs.declared.AxisNet.{AxisNet}
use Rattle.axis_bounds.specs.declared.AxisPin.{AxisPin}
use Rattle.axis_bounds.specs.declared.Axis.{Axis as HeldAxis}
use Rattle.axis_bounds.specs.Axis.{nets_of, axis_of}
use Rattle.axis_bounds.specs.Axis as bounds
use Rattle.axis_bounds.specs.Held.{pins_before, Held}
use Rattle.fit_slots.specs.declared.Direction.{Direction}
use Rattle.fit_slots.specs.declared.Direction.TheVariants.{Horizontal as horizontal, Vertical as vertical}
use Rattle.fit_slots.specs.Slots.{die_side, mac_side, couples}
use Rattle.fit_slots.specs.Fit.{letter_of, letters_of}
use Rattle.fit_slots.specs.Axes.{raised, axis_pin, axis_net, held_slots, axis_for}
use Rattle.fit_slots.proofs.Counting.{letters_count, held_count}
use Rattle.fit_slots.proofs.Fineness.{axis_fine}
use Rattle.fit_axes.specs.Axes.{held_pin, held_net, Taken, PairsMade, AxisFor, AxisMade}
use Rattle.fit_axes.proofs.Copies.{map_take, map_drop}
use Rattle.fit_axes.proofs.Taken.{macs_taken}

-- ---- nets and pins

-- a place that is held higher, lowered and raised again
raised_again : (u : ℕ) → raised (sub_ℕ u 4096) ≡ u
raised_again u =
    ap nat_abs (add_sub u 4096 4096 0 ∙ sub_up (u + 4096) (4096 + 0) (omega arith)) ∙ omega arith

pin_same : (d : Direction) (p : HeldPin) → held_pin d p ≡ axis_pin d (pin_of p)
pin_same horizontal p = ap (λ (u : ℕ). record { node = p.m; up = u }) (sym (raised_again p.xup))
pin_same vertical p = ap (λ (u : ℕ). record { node = p.m; up = u }) (sym (raised_again p.yup))

pins_same : (d : Direction) (ps : List HeldPin) → map (held_pin d) ps ≡ map (axis_pin d) (pins_of ps)
unfolding pins_of
pins_same d [] = refl
pins_same d (p ∷ ps) = rw (pin_same d p, pins_same d ps)

-- the pins that a net takes from the list
net_pins : (d : Direction) (n : ℕ) (ps : List HeldPin) → n ≤ length ps → take n (map (held_pin d) ps) ≡ map (axis_pin d) (pins_of (first_of blank_pin n ps))
net_pins d n ps h = map_take (held_pin d) n ps ∙ pins_same d (take n ps) ∙ ap (λ (s : List HeldPin). map (axis_pin d) (pins_of s)) (sym (first_take blank_pin n ps h))

nets_same : (d : Direction) (ts : List HeldNet) (ps : List HeldPin) → chip.pins_before (length ts) ts ≤ length ps → nets_of (map held_net ts) (map (held_pin d) ps) ≡ map (axis_net d) (model.nets_of ts ps)
unfolding nets_of model.nets_of chip.pins_before
nets_same d [] ps h = refl
nets_same d (t ∷ ts) ps h =
    let l = length-drop t.pins ps in
    rw (net_pins d t.pins ps (omega arith), map_drop (held_pin d) t.pins ps, nets_same d ts (drop t.pins ps) (omega arith))

before_same : (j : ℕ) (ts : List HeldNet) → pins_before j (map held_net ts) ≡ chip.pins_before j ts
unfolding pins_before chip.pins_before
before_same zero ts = refl
before_same (suc j) [] = refl
before_same (suc j) (t ∷ ts) = ap (λ (k : ℕ). t.pins + k) (before_same j ts)

-- ---- the axis

module _ (c : HeldChip) (s : List ℕ) (d : Direction) (k : Taken c s) where
  letters_most : bounds.WellFormed (axis_for d (chip_of c) (letters_of s)) → length (letters_of s) ≡ length (couples (chip_of c)) → length s ≤ 120
  unfolding axis_for
  letters_most f e =
      let l : length (letters_of s) ≡ length s = length-map s letter_of in
      let h = held_count d (letters_of s) (couples (chip_of c)) e in
      let p = f.pairs in
      omega arith

  nets_taken : nets_of (take c.t (map held_net c.nets)) (map (held_pin d) c.pins) ≡ map (axis_net d) (chip_of c).nets
  unfolding chip_of
  nets_taken =
      let q = k.fine.net_count in
      let lt = k.whole.nets in
      let lp = k.whole.pins in
      let p = k.fine.pins in
      let l = length_first blank_net c.t c.nets (omega arith) in
      let b : chip.pins_before (length (first_of blank_net c.t c.nets)) (first_of blank_net c.t c.nets) ≡ chip.pins_before c.t c.nets = rw l (before_first c.t c.t c.nets (omega arith)) in
      rw (map_take held_net c.t c.nets, ← first_take blank_net c.t c.nets (omega arith))
      (nets_same d (first_of blank_net c.t c.nets) c.pins (omega arith))

  module _ (side : ℕ) (es : side ≡ die_side d c.die) (sizes : List ℕ) (em : sizes ≡ map (mac_side d) c.macs) (pairs : List Slot) (ep : take (length s) pairs ≡ held_slots d (letters_of s) (couples (chip_of c))) (nets : List AxisNet) (en : nets ≡ map held_net c.nets) (pins : List AxisPin) (ei : pins ≡ map (held_pin d) c.pins) where
    abbrev made : HeldAxis
    made = record { side = side; n = c.n; sizes = sizes; p = length s; pairs = pairs; base = 4096; t = c.t; nets = nets; pins = pins }

    made_axis : axis_of made ≡ axis_for d (chip_of c) (letters_of s)
    unfolding axis_of axis_for chip_of
    made_axis = rw (es, em, ep, en, ei, nets_taken, map_take (mac_side d) c.n c.macs, ← macs_taken c s k)

    made_held : Held made
    made_held =
        let ls : length (letters_of s) ≡ length s = length-map s letter_of in
        let lc = letters_count (chip_of c) in
        let l = k.letters in
        let f = axis_fine d (chip_of c) (letters_of s) k.valid (omega arith) in
        let p = k.fine.pins in
        record {
          macs = k.fine.mac_count;
          pairs = letters_most f (omega arith);
          nets = k.fine.net_count;
          pins = rw (en, before_same c.t c.nets) p;
          fine = subst bounds.WellFormed (sym made_axis) f;
        }

    axis_made : AxisFor c s d made
    axis_made = record { axis = made_axis; held = made_held; macs = refl }

pub axis_made_if : (c : HeldChip) (s : List ℕ) (d : Direction) (side : ℕ) → side ≡ die_side d c.die → (sizes : List ℕ) → sizes ≡ map (mac_side d) c.macs → (pairs : List Slot) → PairsMade c s d pairs → (nets : List AxisNet) → nets ≡ map held_net c.nets → (pins : List AxisPin) → pins ≡ map (held_pin d) c.pins → AxisMade c s d (record { side = side; n = c.n; sizes = sizes; p = length s; pairs = pairs; base = 4096; t = c.t; nets = nets; pins = pins })
axis_made_if c s d side es sizes em pairs ep nets en pins ei = record { made = λ k. axis_made c s d k side es sizes em pairs (ep.made k) nets en pins ei }
