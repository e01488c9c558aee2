-- The wirelength of a valid chip is at most 589,824,000 for positions 0..1,024 (document 01, "Legal, and how long"). The places of an axis lie between -4,096 and 5,120 (of a box: `box_within`), so a net's length is at most its weight, 1,000, times twice 9,216; and there are at most 32 nets.
use Prim.Native.Nat.{ℕ, zero, suc, ◌+◌, ◌-◌, ◌*◌, ◌≤◌, ◌<◌}
use mathlib.Core.Path.{◌≡◌, refl, ap, ◌∙◌}
use mathlib.Core.Bool.{true}
use mathlib.Core.List.{List, [], ◌∷◌, map}
use native.Mathlib.Decide.{dec_lt}
use native.Mathlib.Nat.{mul-le-mul, le_of_suc-le-suc}
use native.Mathlib.Omega.{arith}
use lib.Dec.{leb}
use lib.IntN.{ℤ, pos, negsuc, ◌+ℤ◌, sub_ℕ}
use lib.ListN.{length, get_or, length-map, get_or-eq_default}
use borrow.Author.Tests.{le-leb, leb-true}
use Rattle.model.specs.declared.Spot.{Spot}
use Rattle.model.specs.Meaning.{Pin, Net, Chip, blank_spot}
use Rattle.model.specs.Limits.{is_within, pin_place, box_end}
use Rattle.text_grammar.proofs.Lacks.{and_left}
use Rattle.chip_text.specs.Valid.{Valid, ValidNet, no_pin, no_net}
use Rattle.num_laws.specs.Spread.{top, bottom}
use Rattle.num_laws.proofs.Spreads.{spread_le, top_le, top_bottom}
use Rattle.num_laws.proofs.Differences.{sub_up, sub_down}
use Rattle.placement.specs.Length.{origin, net_box, net_length, nets_length, wirelength}
use Rattle.placement.specs.Integers.{NetBox, greatest_of, least_of}
use Rattle.placement.specs.Corners.{CornersWithin}
use Rattle.placement.proofs.Spans.{shifted, least_of_shift, greatest_of_shift, across, span_shift, add_shift}

-- a place of a pin, 4,096 higher
abbrev raise : ℤ → ℕ
raise (pos n) = n + 4096
raise (negsuc n) = 4096 - suc n

record Raised (z : ℤ) : Type 0 where
  small : raise z ≤ 8192
  back : z ≡ sub_ℕ (raise z) 4096

raised : (z : ℤ) → is_within pin_place z ≡ true → Raised z
raised (pos n) w = let h : n ≤ 4096 = leb-true n 4096 w in
    record { small = omega arith; back = rw (sub_up (n + 4096) 4096 (omega arith)) (ap (λ (t : ℕ). pos t) (omega arith)) }
raised (negsuc n) w = let h : n ≤ 4095 = leb-true n 4095 (and_left (leb n 4095) true w) in
    record { small = omega arith; back = rw (sub_down (4096 - suc n) 4096 (omega arith)) (ap (λ (t : ℕ). negsuc t) (omega arith)) }

-- a number from 0 to 9,216, 4,096 lower, is in the range of an end of a box
end_within : (v : ℕ) → v ≤ 9216 → is_within box_end (sub_ℕ v 4096) ≡ true
end_within v h = by (dec_lt v 4096)
  where
    by : Dec (v < 4096) → is_within box_end (sub_ℕ v 4096) ≡ true
    by (yes l) = rw (sub_down v 4096 l, le-leb (4096 - suc v) 4095 (omega arith))
    by (no l) = rw (sub_up v 4096 (omega arith), le-leb (v - 4096) 5120 (omega arith))

-- one axis of the corners
module _ (corner : Spot → ℕ) (blank : corner blank_spot ≤ 1024) (ps : List Spot) (near : (i : ℕ) → i < length ps → corner (get_or ps i blank_spot) ≤ 1024) where
  pub origin_near : (m : ℕ) → corner (origin ps m) ≤ 1024
  origin_near zero = blank
  origin_near (suc m) = by (dec_lt m (length ps))
    where
      by : Dec (m < length ps) → corner (get_or ps m blank_spot) ≤ 1024
      by (yes h) = near m h
      by (no h) = rw (get_or-eq_default ps blank_spot {n = m} (omega arith)) blank

  -- and of the pins
  module _ (place : Pin → ℤ) where
    abbrev at : Pin → ℤ
    at p = pos (corner (origin ps p.m)) +ℤ place p

    abbrev up : Pin → ℕ
    up p = corner (origin ps p.m) + raise (place p)

    abbrev Within : List Pin → Type 0
    Within ts = (i : ℕ) → i < length ts → is_within pin_place (place (get_or ts i no_pin)) ≡ true

    one_shifted : (t : Pin) → is_within pin_place (place t) ≡ true → at t ≡ sub_ℕ (up t) 4096
    one_shifted t w = ap (λ (z : ℤ). pos (corner (origin ps t.m)) +ℤ z) (raised (place t) w).back ∙ add_shift (corner (origin ps t.m)) (raise (place t)) 4096

    all_shifted : (ts : List Pin) → Within ts → map at ts ≡ shifted 4096 (map up ts)
    all_shifted [] w = refl
    all_shifted (t ∷ ts) w = rw (one_shifted t (w 0 (omega arith)), all_shifted ts (λ i l. w (suc i) (omega arith)))

    all_small : (ts : List Pin) → Within ts → (i : ℕ) → i < length (map up ts) → get_or (map up ts) i 0 ≤ 9216
    all_small [] w i l = absurd (omega arith)
    all_small (t ∷ ts) w zero l = let a = origin_near t.m in let b = (raised (place t) (w 0 (omega arith))).small in omega arith
    all_small (t ∷ ts) w (suc i) l = all_small ts (λ j k. w (suc j) (omega arith)) i (le_of_suc-le-suc l)

    -- the least and the greatest of them
    ends_within : (ts : List Pin) → Within ts → 0 < length ts → (is_within box_end (least_of (map at ts)) ≡ true) × (is_within box_end (greatest_of (map at ts)) ≡ true)
    ends_within ts w l =
        let us = map up ts in
        let some : 0 < length us = rw (length-map ts up) l in
        let few = top_le 9216 us (record { at = all_small ts w }) in
        let b = top_bottom us in
        (rw (all_shifted ts w, least_of_shift 4096 us some) (end_within (bottom us) (omega arith)), rw (all_shifted ts w, greatest_of_shift 4096 us some) (end_within (top us) few))

    axis_bound : (ts : List Pin) → Within ts → across (map at ts) ≤ 9216
    axis_bound ts w = rw (all_shifted ts w, span_shift 4096 (map up ts)) (spread_le 9216 (map up ts) (record { at = all_small ts w }))

-- the ends of a box are in their range
pub record BoxWithin (b : NetBox) : Type 0 where
  pub left : is_within box_end b.left ≡ true
  pub right : is_within box_end b.right ≡ true
  pub bottom : is_within box_end b.bottom ≡ true
  pub top : is_within box_end b.top ≡ true

module _ (ps : List Spot) (near : CornersWithin ps) (n : ℕ) where
  pub box_within : (t : Net) → ValidNet n t → BoxWithin (net_box ps t)
  box_within t v =
      let a = ends_within (λ p. p.x) (omega arith) ps near.x (λ p. p.x) t.pins (λ i l. (v.pin i l).x) v.some in
      let b = ends_within (λ p. p.y) (omega arith) ps near.y (λ p. p.y) t.pins (λ i l. (v.pin i l).y) v.some in
      record { left = a.0; right = a.1; bottom = b.0; top = b.1 }

  net_bound : (t : Net) → ValidNet n t → net_length ps t ≤ 18432000
  unfolding net_length
  net_bound t v =
      let a = axis_bound (λ p. p.x) (omega arith) ps near.x (λ p. p.x) t.pins (λ i l. (v.pin i l).x) in
      let b = axis_bound (λ p. p.y) (omega arith) ps near.y (λ p. p.y) t.pins (λ i l. (v.pin i l).y) in
      mul-le-mul {n₂ = 1000} {m₂ = 18432} v.weight.high (omega arith)

  nets_bound : (ts : List Net) → ((j : ℕ) → j < length ts → ValidNet n (get_or ts j no_net)) → nets_length ps ts ≤ length ts * 18432000
  unfolding nets_length
  nets_bound [] v = omega arith
  nets_bound (t ∷ ts) v = let a = net_bound t (v 0 (omega arith)) in let b = nets_bound ts (λ j l. v (suc j) (omega arith)) in omega arith

pub wirelength_bound : (c : Chip) (ps : List Spot) → Valid c → CornersWithin ps → wirelength c ps ≤ 589824000
wirelength_bound c ps v near = let h = nets_bound ps near (length c.macs) c.nets v.net in let k = v.net_count in omega arith
