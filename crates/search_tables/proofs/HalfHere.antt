-- The half fit of the arrays is the half fit of the chip's direction.
use Prim.Native.Nat.{ℕ, ◌≤◌, ◌<◌}
use mathlib.Core.Path.{◌≡◌, refl, sym, ◌∙◌}
use mathlib.Core.List.{List, map}
use native.Mathlib.Decide.{dec_lt}
use native.Mathlib.Omega.{arith}
use lib.ListN.{length, get_or, take, length-map, get_or-eq_default}
use Rattle.model.specs.Meaning.{Chip}
use Rattle.chip_text.specs.Valid.{Valid}
use Rattle.placement.specs.Letters.{Letter}
use Rattle.axis_bounds.specs.Axis.{Keeps, length_on, nets_length}
use Rattle.axis_bounds.specs.Half.{HalfOn, AboveOn}
use Rattle.fit_slots.specs.declared.Direction.{Direction}
use Rattle.fit_slots.specs.Slots.{mac_side}
use Rattle.fit_slots.specs.Axes.{axis_net, axis_for}
use Rattle.fit_slots.proofs.Fineness.{die_most}
use Rattle.half_arrays.specs.Arrays.{axis_on}
use Rattle.half_arrays.proofs.Arcs.{on_keeps, keeps_on}
use Rattle.search_tables.specs.Tables.{padded, Tabled, Arced}
use Rattle.search_tables.proofs.Padding.{take_least, padded_at, padded_long, take_nets, padded_nets}

module _ (d : Direction) (c : Chip) (ls : List Letter) (v : Valid c) where
  chip_long : (y : List ℕ) → Keeps (axis_for d c ls) y → length y ≡ length c.macs
  unfolding axis_for
  chip_long y k = k.long ∙ length-map c.macs (mac_side d)

  -- no coordinate is past the die
  pub chip_small : (y : List ℕ) → Keeps (axis_for d c ls) y → (i : ℕ) → get_or y i 0 ≤ 1024
  unfolding axis_for
  chip_small y k i = by (dec_lt i (length y))
    where
      by : Dec (i < length y) → get_or y i 0 ≤ 1024
      by (yes l) = let e = k.long in let s = k.size i (omega arith) in let m = die_most d c v in omega arith
      by (no l) = let q = get_or-eq_default y 0 {n = i} (omega arith) in omega arith

  chip_length : (y : List ℕ) → length_on (axis_for d c ls) y ≡ nets_length y (map (axis_net d) c.nets)
  unfolding axis_for
  chip_length y = refl

  module _ (tab arcs : List ℕ) (t : Tabled d c tab) (a : Arced d c ls arcs) where
    down_keeps : (z : List ℕ) → Keeps (axis_on tab arcs) z → Keeps (axis_for d c ls) (take (length c.macs) z)
    down_keeps z k = a.down z k.long (keeps_on tab arcs z k)

    up_keeps : (y : List ℕ) → Keeps (axis_for d c ls) y → Keeps (axis_on tab arcs) (padded y)
    up_keeps y k =
        on_keeps tab arcs (padded y) (padded_long y (let e = chip_long y k in let m = v.mac_count in omega arith))
        (λ i. let e = padded_at y i in let s = chip_small y k i in omega arith) (a.up y k)

    down_length : (z : List ℕ) → length_on (axis_for d c ls) (take (length c.macs) z) ≡ length_on (axis_on tab arcs) z
    down_length z = chip_length (take (length c.macs) z) ∙ (take_nets d c v z ∙ sym (t.long z))

    up_length_law : (y : List ℕ) → length_on (axis_on tab arcs) (padded y) ≡ length_on (axis_for d c ls) y
    up_length_law y = t.long (padded y) ∙ (padded_nets d c v y ∙ sym (chip_length y))

    -- the half fit of the arrays is that of the chip
    pub half_here : (l : ℕ) (z : List ℕ) → HalfOn (axis_on tab arcs) l z → HalfOn (axis_for d c ls) l (take (length c.macs) z)
    half_here l z h =
        let e = down_length z in
        record {
          least = record {
            keeps = down_keeps z h.least.keeps;
            least = λ y k. let q = h.least.least (padded y) (up_keeps y k) in let f = up_length_law y in omega arith;
            smallest = λ y k g i.
                let f = up_length_law y in
                let q = h.least.smallest (padded y) (up_keeps y k) (f ∙ (g ∙ e)) i in
                let p = padded_at y i in let r = take_least (length c.macs) z i in
                omega arith;
          };
          long = h.long ∙ sym e;
        }

    -- above the room in the arrays, above the room in the chip
    pub above_here : (room : ℕ) → AboveOn (axis_on tab arcs) room → AboveOn (axis_for d c ls) room
    above_here room h = record { longer = λ y k. let q = h.longer (padded y) (up_keeps y k) in let f = up_length_law y in omega arith }
