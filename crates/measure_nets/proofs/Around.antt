-- The box of a net's pins, one pin after the other.
use mathlib.Core.Path.{◌≡◌, sym, ap, ◌∙◌}
use mathlib.Core.List.{List, [], ◌∷◌, map}
use Prim.Native.Nat.{ℕ, suc, ◌+◌, ◌≤◌, ◌<◌, min, max}
use native.Mathlib.Decide.{dec_le}
use native.Mathlib.Numerals.{add-one}
use native.Mathlib.Omega.{arith}
use lib.ListN.{length, get_or, take, drop, drop_of_length-le}
use lib.Seq.{slice, slice_empty, slice-cons, length-take-le, take_all}
use Rattle.model.specs.declared.Spot.{Spot}
use Rattle.model.specs.declared.Pin.{Pin}
use Rattle.model.specs.Meaning.{blank_pin}
use Rattle.num_laws.specs.Spread.{most, fewest, top, bottom}
use Rattle.num_laws.proofs.Spreads.{top_found, bottom_found}
use Rattle.measure_nets.specs.declared.NetBox.{NetBox}
use Rattle.measure_nets.specs.Held.{held_x, held_y, with_pin, box_held}

-- the box with pins more
abbrev box_with : List Spot → NetBox → List Pin → NetBox
box_with ps b hs = record {
  left = fewest b.left (map (held_x ps) hs);
  right = most b.right (map (held_x ps) hs);
  bottom = fewest b.bottom (map (held_y ps) hs);
  top = most b.top (map (held_y ps) hs);
}

-- one pin more
pub pin_added : (b : NetBox) (p : Spot) (l r s t : ℕ) → l ≡ min b.left p.x → r ≡ max b.right p.x → s ≡ min b.bottom p.y → t ≡ max b.top p.y → ◌≡◌ {A = NetBox} (record { left = l; right = r; bottom = s; top = t }) (with_pin b p)
pin_added b p l r s t el er es et = rw (el, er, es, et)

-- the box that b becomes with the pins from i up to `to` is that of all pins from `from` on
pub record Around (ps : List Spot) (hs : List Pin) (from to i : ℕ) (b : NetBox) : Type 0 where
  whole : box_held ps (slice from to hs) ≡ box_with ps b (slice i to hs)

-- no pin lies farther
abbrev farthest : ℕ
farthest = 4294967296

near : (ps : List Spot) (p : Pin) → (held_x ps p ≤ farthest) × (held_y ps p ≤ farthest)
unfolding held_x held_y
near ps p = (omega arith, omega arith)

-- the loop's start: with a pin more it is the box of that pin
abbrev start : NetBox
start = record { left = farthest; right = 0; bottom = farthest; top = 0 }

started : (ps : List Spot) (p : Pin) (s : List Pin) → box_held ps (p ∷ s) ≡ box_with ps start (p ∷ s)
started ps p s = rw (
  bottom_found farthest (held_x ps p) (map (held_x ps) s) (near ps p).0,
  top_found (map (held_x ps) (p ∷ s)),
  bottom_found farthest (held_y ps p) (map (held_y ps) s) (near ps p).1,
  top_found (map (held_y ps) (p ∷ s)),
)

-- pins past the array are none
slice_within : (hs : List Pin) (from b : ℕ) → length hs ≡ 128 → slice from (min b 128) hs ≡ slice from b hs
slice_within hs from b l = ap (drop from) (by (dec_le b 128))
  where
    by : Dec (b ≤ 128) → take (min b 128) hs ≡ take b hs
    by (yes h) = let e : min b 128 ≡ b = omega arith in rw e
    by (no n) = take_all (min b 128) hs (omega arith) ∙ sym (take_all b hs (omega arith))

module _ (ps : List Spot) (hs : List Pin) (from count to : ℕ) (long : length hs ≡ 128) (ends : to ≡ min (from + count) 128) where
  its_pins : slice from to hs ≡ slice from (from + count) hs
  its_pins = rw ends (slice_within hs from (from + count) long)

  -- no pins
  pub none_around : to ≤ from → ◌≡◌ {A = NetBox} (record { left = 0; right = 0; bottom = 0; top = 0 }) (box_held ps (slice from (from + count) hs))
  unfolding top bottom
  none_around h = let e : slice from to hs ≡ [] = drop_of_length-le (take to hs) {i = from} (rw (length-take-le to hs (omega arith)) h) in rw (← its_pins, e)

  -- before the first pin
  pub first_around : from < to → Around ps hs from to from start
  first_around h = record { whole = rw (slice-cons from to hs blank_pin h (omega arith)) (started ps (get_or hs from blank_pin) (slice (suc from) to hs)) }

  module _ (i : ℕ) (b : NetBox) (so : Around ps hs from to i b) where
    pub next_around : (r : Spot) (d : NetBox) → i < to → r ≡ record { x = held_x ps (get_or hs i blank_pin); y = held_y ps (get_or hs i blank_pin) } → d ≡ with_pin b r → Around ps hs from to (i + 1) d
    unfolding most fewest
    next_around r d h k w = record { whole = so.whole ∙ rw (slice-cons i to hs blank_pin h (omega arith), w, k, add-one) }

    pub all_around : i ≤ to → to ≤ i → b ≡ box_held ps (slice from (from + count) hs)
    unfolding most fewest
    all_around h k = let e : i ≡ to = omega arith in sym (rw (← its_pins) (so.whole ∙ rw (e, slice_empty to hs)))
