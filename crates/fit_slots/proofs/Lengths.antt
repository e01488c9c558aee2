-- The wirelength of a placement is the sum of the lengths on the two axes.
use Prim.Native.Nat.{ℕ, suc, ◌+◌, ◌-◌, ◌*◌, ◌≤◌, ◌<◌}
use mathlib.Core.Path.{◌≡◌, refl, sym, ap, ◌∙◌}
use mathlib.Core.Bool.{true}
use mathlib.Core.List.{List, [], ◌∷◌, map}
use native.Mathlib.Omega.{arith}
use lib.IntN.{ℤ, pos, negsuc, ◌+ℤ◌, sub_ℕ, nat_abs}
use lib.Signed.{le_z}
use lib.ListN.{length, get_or}
use borrow.Author.Tests.{leb-true}
use Rattle.model.specs.declared.Spot.{Spot}
use Rattle.model.specs.Meaning.{Pin, Net, Chip}
use Rattle.text_grammar.proofs.Lacks.{and_left}
use Rattle.chip_text.specs.Valid.{ValidPin, ValidNet, Valid, no_pin, no_net}
use Rattle.num_laws.specs.Spread.{spread}
use Rattle.num_laws.proofs.Differences.{sub_up, sub_down}
use Rattle.placement.specs.Length as plane
use Rattle.placement.specs.Length.{origin, pin_x, pin_y, net_length, wirelength}
use Rattle.placement.proofs.Spans.{shifted, across, span_shift, add_shift}
use Rattle.axis_bounds.specs.Axis.{value_at, places, nets_length, length_on}
use Rattle.placement.specs.Letters.{Letter}
use Rattle.fit_slots.specs.declared.Direction.{Direction}
use Rattle.fit_slots.specs.declared.Direction.TheVariants.{Horizontal as horizontal, Vertical as vertical}
use Rattle.fit_slots.specs.Slots.{pin_place}
use Rattle.fit_slots.specs.Axes.{raised, axis_pin, axis_net, axis_for, corner_on, corners_on}
use Rattle.fit_slots.proofs.Pairs.{value_corner}

pub raised_low : (n : ℕ) → n ≤ 4095 → raised (negsuc n) ≡ 4096 - suc n
raised_low n l = ap nat_abs (sub_up 4096 (suc n) (omega arith))

-- a raised place, lowered again
pub raise_back : (z : ℤ) → le_z (negsuc 4095) z ≡ true → sub_ℕ (raised z) 4096 ≡ z
raise_back (pos n) h = sub_up (n + 4096) 4096 (omega arith) ∙ ap (λ (t : ℕ). pos t) (omega arith)
raise_back (negsuc n) h =
    let l = leb-true n 4095 h in
    ap (λ (t : ℕ). sub_ℕ t 4096) (raised_low n l) ∙ sub_down (4096 - suc n) 4096 (omega arith) ∙ ap (λ (t : ℕ). negsuc t) (omega arith)

-- where a pin lies in a direction
abbrev pub place_at : Direction → List Spot → Pin → ℤ
place_at horizontal ps p = pin_x ps p
place_at vertical ps p = pin_y ps p

pub raised_pin : (d : Direction) (n : ℕ) (p : Pin) → ValidPin n p → sub_ℕ (raised (pin_place d p)) 4096 ≡ pin_place d p
raised_pin horizontal n p v = raise_back p.x (and_left (le_z (negsuc 4095) p.x) (le_z p.x (pos 4096)) v.x)
raised_pin vertical n p v = raise_back p.y (and_left (le_z (negsuc 4095) p.y) (le_z p.y (pos 4096)) v.y)

pin_at_law : (d : Direction) (n : ℕ) (ps : List Spot) (p : Pin) → ValidPin n p → place_at d ps p ≡ sub_ℕ (value_at (corners_on d ps) p.m + raised (pin_place d p)) 4096
pin_at_law d n ps p v =
    raw d ∙ ap (λ (z : ℤ). pos (corner_on d (origin ps p.m)) +ℤ z) (sym (raised_pin d n p v)) ∙ add_shift (corner_on d (origin ps p.m)) (raised (pin_place d p)) 4096
    ∙ ap (λ (t : ℕ). sub_ℕ (t + raised (pin_place d p)) 4096) (sym (value_corner d ps p.m))
  where
    raw : (e : Direction) → place_at e ps p ≡ pos (corner_on e (origin ps p.m)) +ℤ pin_place e p
    raw horizontal = refl
    raw vertical = refl

pins_at_law : (d : Direction) (n : ℕ) (ps : List Spot) (qs : List Pin) → ((i : ℕ) → i < length qs → ValidPin n (get_or qs i no_pin)) → map (place_at d ps) qs ≡ shifted 4096 (places (corners_on d ps) (map (axis_pin d) qs))
pins_at_law d n ps [] h = refl
pins_at_law d n ps (q ∷ qs) h = rw (pin_at_law d n ps q (h 0 (omega arith)), pins_at_law d n ps qs (λ i l. h (suc i) (omega arith)))

net_span : (d : Direction) (n : ℕ) (ps : List Spot) (t : Net) → ValidNet n t → across (map (place_at d ps) t.pins) ≡ spread (places (corners_on d ps) (map (axis_pin d) t.pins))
net_span d n ps t v = ap across (pins_at_law d n ps t.pins v.pin) ∙ span_shift 4096 (places (corners_on d ps) (map (axis_pin d) t.pins))

nets_split : (n : ℕ) (ps : List Spot) (ts : List Net) → ((j : ℕ) → j < length ts → ValidNet n (get_or ts j no_net)) → plane.nets_length ps ts ≡ nets_length (corners_on horizontal ps) (map (axis_net horizontal) ts) + nets_length (corners_on vertical ps) (map (axis_net vertical) ts)
unfolding plane.nets_length nets_length net_length
nets_split n ps [] h = refl
nets_split n ps (t ∷ ts) h =
    let ih = nets_split n ps ts (λ j l. h (suc j) (omega arith)) in
    let ex = ap (λ (u : ℕ). t.weight * u) (net_span horizontal n ps t (h 0 (omega arith))) in
    let ey = ap (λ (u : ℕ). t.weight * u) (net_span vertical n ps t (h 0 (omega arith))) in
    omega arith

pub lengths_split : (c : Chip) (ls : List Letter) (ps : List Spot) → Valid c → wirelength c ps ≡ length_on (axis_for horizontal c ls) (corners_on horizontal ps) + length_on (axis_for vertical c ls) (corners_on vertical ps)
unfolding axis_for
lengths_split c ls ps v = nets_split (length c.macs) ps c.nets v.net
