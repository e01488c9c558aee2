-- The nets of a tested chip held as a value: no number of theirs reaches the limit up to which it counts, so their held boxes are their boxes (`box_told`), and the sum of their lengths in raised numbers is the wirelength (`length_whole`).
use mathlib.Core.Path.{◌≡◌, refl, sym, ap, ◌∙◌}
use mathlib.Core.List.{List, [], ◌∷◌, map}
use Prim.Native.Nat.{ℕ, zero, suc, ◌+◌, ◌-◌, ◌*◌, ◌≤◌, ◌<◌, min}
use native.Mathlib.Nat.{zero-add, suc-add}
use native.Mathlib.Omega.{arith}
use lib.ListN.{length, get_or, take, drop, drop_of_length-le, length-map}
use lib.Seq.{slice, take-nil, drop-cons, get_or-take, get_or-drop, length-slice}
use Rattle.model.specs.declared.Spot.{Spot}
use Rattle.model.specs.declared.Net.{Net as HeldNet}
use Rattle.model.specs.declared.Pin.{Pin as HeldPin}
use Rattle.model.specs.declared.Chip.{Chip as HeldChip}
use Rattle.model.specs.Meaning.{Net, chip_of, pins_of, blank_net, blank_pin, blank_spot}
use Rattle.chip_text.specs.Valid.{no_net, pins_before, HeldValidPin, HeldValid}
use Rattle.chip_text.proofs.HeldNets.{pins_before_more, pins_before_up}
use Rattle.chip_text.proofs.HeldMeaning.{weight_held, nets_held, pins_held}
use Rattle.placement.specs.Length.{origin, net_box, net_length, nets_length, wirelength}
use Rattle.placement.specs.Corners.{CornersWithin}
use Rattle.placement.proofs.Spans.{up_x, up_y, least_of_shift, greatest_of_shift, held_box, held_length}
use Rattle.placement.proofs.LengthBound.{origin_near}
use Rattle.num_laws.specs.Spread.{top, bottom, spread}
use Rattle.num_laws.proofs.Spreads.{top_bottom}
use Rattle.measure_nets.specs.Box.{box_of}
use Rattle.measure_nets.specs.Held.{limited, held_x, held_y, box_length_held}
use Rattle.measure_held.specs.Held.{box_at, length_to, length_held}

-- the corners of the first n macros
origin_first : (n : ℕ) (s : List Spot) (m : ℕ) → m ≤ n → origin (take n s) m ≡ origin s m
origin_first n s zero h = refl
origin_first n s (suc m) h = get_or-take n s m blank_spot h

slice_take : {A : Type 0} (f k : ℕ) (l : List A) → slice f (f + k) l ≡ take k (drop f l)
slice_take zero k l = rw (zero-add k)
slice_take (suc f) k [] = rw (take-nil (suc f + k)) (sym (take-nil k))
slice_take (suc f) k (a ∷ l) = rw (suc-add f k) (slice_take f k l)

map_same : (f g : HeldPin → ℕ) (hs : List HeldPin) → ((i : ℕ) → i < length hs → f (get_or hs i blank_pin) ≡ g (get_or hs i blank_pin)) → map f hs ≡ map g hs
map_same f g [] e = refl
map_same f g (h ∷ hs) e = rw (e 0 (omega arith), map_same f g hs (λ i l. e (suc i) (omega arith)))

times_least : (w k : ℕ) → 1 ≤ w → k ≤ w * k
times_least zero k h = absurd (omega arith)
times_least (suc w) k h = omega arith

-- a fine chip and near positions
module _ (c : HeldChip) (fine : HeldValid c) (s : List Spot) (near : CornersWithin (take c.n s)) where
  abbrev its_spots : List Spot
  its_spots = take c.n s

  -- no number of a pin reaches the limit
  x_held : (p : HeldPin) → HeldValidPin c.n p → held_x s p ≡ up_x its_spots p
  unfolding held_x
  x_held p f = let o = origin_near (λ (q : Spot). q.x) (omega arith) its_spots near.x p.m in rw (← origin_first c.n s p.m f.macro) (omega (arith, f.x))

  y_held : (p : HeldPin) → HeldValidPin c.n p → held_y s p ≡ up_y its_spots p
  unfolding held_y
  y_held p f = let o = origin_near (λ (q : Spot). q.y) (omega arith) its_spots near.y p.m in rw (← origin_first c.n s p.m f.macro) (omega (arith, f.y))

  module _ (nets : length c.nets ≡ 32) (pins : length c.pins ≡ 128) where
    module _ (j : ℕ) (h : j < c.t) where
      abbrev net : HeldNet
      net = get_or c.nets j blank_net

      abbrev from : ℕ
      from = pins_before j c.nets

      abbrev its : List HeldPin
      its = slice from (from + net.pins) c.pins

      within : from + net.pins ≤ pins_before c.t c.nets
      within = let a = pins_before_more j c.nets in let b = pins_before_up (suc j) c.t c.nets h in omega arith

      its_pins : (get_or (chip_of c).nets j no_net).pins ≡ pins_of its
      its_pins = pins_held c fine pins j h ∙ ap pins_of (sym (slice_take from net.pins c.pins))

      each_fine : (i : ℕ) → i < length its → HeldValidPin c.n (get_or its i blank_pin)
      each_fine i l =
          let to : ℕ = from + net.pins in
          let k : from + i < to = omega (arith, fine.pins, within, length-slice from to c.pins (omega (arith, fine.pins, within))) in
          rw (get_or-drop from (take to c.pins) i blank_pin, get_or-take to c.pins (from + i) blank_pin k) (fine.pin (from + i) (omega (arith, within)))

      -- where its pins lie, 4,096 higher
      abbrev xs : List ℕ
      xs = map (up_x its_spots) its

      abbrev ys : List ℕ
      ys = map (up_y its_spots) its

      box_held_law : box_at s c.nets c.pins j ≡ record { left = bottom xs; right = top xs; bottom = bottom ys; top = top ys }
      box_held_law = rw (
        map_same (held_x s) (up_x its_spots) its (λ i l. x_held (get_or its i blank_pin) (each_fine i l)),
        map_same (held_y s) (up_y its_spots) its (λ i l. y_held (get_or its i blank_pin) (each_fine i l)),
      )

      same_net : (t : Net) (w : ℕ) → t.weight ≡ w → t.pins ≡ pins_of its → t ≡ record { weight = w; pins = pins_of its }
      same_net t w e f = rw (← e, ← f)

      its_net : get_or (chip_of c).nets j no_net ≡ record { weight = net.weight; pins = pins_of its }
      its_net = same_net (get_or (chip_of c).nets j no_net) net.weight (weight_held c j h) its_pins

      -- its box
      pub box_told : box_of (box_at s c.nets c.pins j) ≡ net_box its_spots (get_or (chip_of c).nets j no_net)
      box_told =
          let some = (fine.net j h).some in
          let l : length its ≡ net.pins = let k = length-slice from (from + net.pins) c.pins (omega (arith, fine.pins, within)) in omega arith in
          let a : 0 < length xs = rw (length-map its (up_x its_spots)) (omega arith) in
          let b : 0 < length ys = rw (length-map its (up_y its_spots)) (omega arith) in
          ap box_of box_held_law
          ∙ sym (ap (net_box its_spots) its_net
          ∙ held_box its_spots net.weight its
          ∙ rw (least_of_shift 4096 xs a, greatest_of_shift 4096 xs a, least_of_shift 4096 ys b, greatest_of_shift 4096 ys b))

      -- and its length
      abbrev half : ℕ
      half = spread xs + spread ys

      abbrev long : ℕ
      long = net_length its_spots (get_or (chip_of c).nets j no_net)

      net_long : long ≡ net.weight * half
      net_long = ap (net_length its_spots) its_net ∙ held_length its_spots net.weight its

      net_same : long ≤ 589824000 → box_length_held net.weight (box_at s c.nets c.pins j) ≡ long
      net_same few =
          let v = (fine.net j h).weight in
          let e : limited net.weight ≡ net.weight = omega (arith, v.high) in
          let k = times_least net.weight half v.low in
          let p = top_bottom xs in
          let q = top_bottom ys in
          let x : limited (top xs - bottom xs) ≡ spread xs = omega (arith, net_long) in
          let y : limited (top ys - bottom ys) ≡ spread ys = omega (arith, net_long) in
          ap (box_length_held net.weight) box_held_law ∙ ap (λ (t : ℕ). t * (limited (top xs - bottom xs) + limited (top ys - bottom ys))) e ∙ ap (λ (t : ℕ). net.weight * (t + limited (top ys - bottom ys))) x ∙ ap (λ (t : ℕ). net.weight * (spread xs + t)) y ∙ sym net_long

    module _ (bound : wirelength (chip_of c) its_spots ≤ 589824000) where
      -- the lengths of the first j nets, and of those left
      split : (j : ℕ) → j ≤ c.t → wirelength (chip_of c) its_spots ≡ length_to s c.nets c.pins j + nets_length its_spots (drop j (chip_of c).nets)
      unfolding length_to nets_length
      split zero h = sym (zero-add (wirelength (chip_of c) its_spots))
      split (suc j) h =
          let a = split j (omega arith) in
          let b : nets_length its_spots (drop j (chip_of c).nets) ≡ long j h + nets_length its_spots (drop (suc j) (chip_of c).nets) =
          rw (drop-cons (chip_of c).nets j no_net (rw (nets_held c fine nets) h)) in
          let e = net_same j h (omega arith) in
          omega arith

      pub length_whole : length_held c s ≡ wirelength (chip_of c) its_spots
      unfolding nets_length
      length_whole =
          let t : min c.t 32 ≡ c.t = omega (arith, fine.net_count) in
          let e : nets_length its_spots (drop c.t (chip_of c).nets) ≡ 0 = rw (drop_of_length-le (chip_of c).nets {i = c.t} (rw (nets_held c fine nets) (omega arith))) in
          let a = split c.t (omega arith) in
          rw t (omega arith)
