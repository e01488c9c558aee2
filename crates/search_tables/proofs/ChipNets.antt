-- The array filled from a chip's arrays holds the chip's nets.
use Prim.Native.Nat.{ℕ, zero, suc, ◌+◌, ◌*◌, ◌%◌, ◌≤◌, ◌<◌}
use mathlib.Core.Path.{◌≡◌, refl, sym, ap, subst, ◌∙◌}
use mathlib.Core.List.{List, [], ◌∷◌, map}
use native.Mathlib.Omega.{arith}
use lib.IntN.{sub_ℕ, nat_abs}
use lib.ListN.{length, get_or, drop, length-drop, length-map, get_or-map}
use lib.Seq.{get_or-drop}
use Rattle.num_laws.proofs.Differences.{sub_up, add_sub}
use Rattle.model.specs.declared.Net.{Net as HeldNet}
use Rattle.model.specs.declared.Pin.{Pin as HeldPin}
use Rattle.model.specs.declared.Chip.{Chip as HeldChip}
use Rattle.model.specs.Meaning.{first_of, blank_net, blank_pin, pin_of, pins_of, nets_of, chip_of}
use Rattle.model.proofs.FirstOf.{length_first, get_d_first}
use Rattle.model.proofs.Nets.{length_pins, length_nets}
use Rattle.chip_text.specs.Valid.{HeldValidPin, no_net, pins_before}
use Rattle.chip_text.specs.Passed.{Passed}
use Rattle.chip_text.proofs.HeldNets.{pins_before_more, pins_before_up, before_first, get_d_weight, get_d_net}
use Rattle.chip_text.proofs.Passing.{Whole}
use Rattle.axis_bounds.specs.declared.AxisPin.{AxisPin}
use Rattle.axis_bounds.specs.Axis.{NetOn, no_pin, bare_net}
use Rattle.fit_slots.specs.declared.Direction.{Direction}
use Rattle.fit_slots.specs.declared.Direction.TheVariants.{Horizontal as horizontal, Vertical as vertical}
use Rattle.fit_slots.specs.Axes.{raised, axis_pin, axis_net}
use Rattle.search_halves.proofs.Entries.{entries_spread}
use Rattle.half_arrays.specs.Arrays.{pin_at, entry_count}
use Rattle.search_tables.specs.Tables.{Tabled}
use Rattle.search_tables.specs.Entries.{up_on, pin_on, pins_on, start_of, NetsIn}
use Rattle.search_tables.proofs.NetTables.{pins_small}
use Rattle.search_tables.proofs.Covering.{covered_there, covered_back, AsNet, nets_length_law}

-- ---- pins

-- a place that is held higher, lowered and raised again
raised_again : (u : ℕ) → raised (sub_ℕ u 4096) ≡ u
raised_again u = ap nat_abs (add_sub u 4096 4096 0 ∙ sub_up (u + 4096) (4096 + 0) (omega arith)) ∙ omega arith

pin_same : (d : Direction) (p : HeldPin) → axis_pin d (pin_of p) ≡ pin_at p.m (up_on d p)
pin_same horizontal p = ap (pin_at p.m) (raised_again p.xup)
pin_same vertical p = ap (pin_at p.m) (raised_again p.yup)

pin_reads : (d : Direction) (n : ℕ) (p : HeldPin) → n ≤ 8 → HeldValidPin n p → pin_at p.m (up_on d p) ≡ pin_on d p
pin_reads horizontal n p l f = let a = f.macro in let b = f.x in let x : p.m ≡ p.m % 9 = omega arith in let y : p.xup ≡ p.xup % 65536 = omega arith in ap (λ (k : ℕ). pin_at k p.xup) x ∙ ap (pin_at (p.m % 9)) y
pin_reads vertical n p l f = let a = f.macro in let b = f.y in let x : p.m ≡ p.m % 9 = omega arith in let y : p.yup ≡ p.yup % 65536 = omega arith in ap (λ (k : ℕ). pin_at k p.yup) x ∙ ap (pin_at (p.m % 9)) y

axis_pin_at : (d : Direction) (ps : List HeldPin) (i : ℕ) → i < length ps → get_or (map (axis_pin d) (pins_of ps)) i no_pin ≡ axis_pin d (pin_of (get_or ps i blank_pin))
unfolding pins_of
axis_pin_at d [] i l = absurd (omega arith)
axis_pin_at d (p ∷ ps) zero l = refl
axis_pin_at d (p ∷ ps) (suc i) l = axis_pin_at d ps i (omega arith)

net_at_law : (d : Direction) (ts : List HeldNet) (ps : List HeldPin) (j : ℕ) → get_or (map (axis_net d) (nets_of ts ps)) j bare_net ≡ axis_net d (get_or (nets_of ts ps) j no_net)
net_at_law d ts ps j = get_or-map (axis_net d) (nets_of ts ps) j no_net

-- ---- the nets of a chip

module _ (c : HeldChip) (pass : Passed c) (w : Whole c) (d : Direction) where
  abbrev F : List HeldNet
  F = first_of blank_net c.t c.nets

  abbrev us : List NetOn
  us = map (axis_net d) (nets_of F c.pins)

  us_long : length us ≡ c.t
  us_long =
      let a = length-map (nets_of F c.pins) (axis_net d) in let b = length_nets F c.pins in
      let e = w.nets in let g = pass.fine.net_count in
      let h = length_first blank_net c.t c.nets (omega arith) in
      omega arith

  module _ (j : ℕ) (l : j < c.t) where
    abbrev m : ℕ
    m = (get_or c.nets j blank_net).pins

    abbrev taken : List HeldPin
    taken = first_of blank_pin m (drop (pins_before j c.nets) c.pins)

    weight_is : (get_or us j bare_net).weight ≡ (get_or c.nets j blank_net).weight
    weight_is =
        ap (λ (u : NetOn). u.weight) (net_at_law d F c.pins j) ∙ (get_d_weight F c.pins j ∙ ap (λ (t : HeldNet). t.weight) (get_d_first blank_net c.t c.nets j l))

    pins_are : (get_or us j bare_net).pins ≡ map (axis_pin d) (pins_of taken)
    pins_are =
        ap (λ (u : NetOn). u.pins) (net_at_law d F c.pins j)
        ∙ ap (map (axis_pin d)) (get_d_net F c.pins j
        ∙ (ap (λ (t : HeldNet). pins_of (first_of blank_pin t.pins (drop (pins_before j F) c.pins))) (get_d_first blank_net c.t c.nets j l)
        ∙ ap (λ (k : ℕ). pins_of (first_of blank_pin m (drop k c.pins))) (before_first j c.t c.nets (omega arith))))

    next_is : start_of c.nets (suc j) ≡ start_of c.nets j + m
    next_is = pins_before_more j c.nets

    next_in : start_of c.nets j + m ≤ pins_before c.t c.nets
    next_in = let a = pins_before_up (suc j) c.t c.nets l in let b = next_is in omega arith

    taken_long : length taken ≡ m
    taken_long =
        let a = length-drop (pins_before j c.nets) c.pins in let b = next_in in let e = w.pins in let g = pass.fine.pins in
        length_first blank_pin m (drop (pins_before j c.nets) c.pins) (omega arith)

    pins_long : length (get_or us j bare_net).pins ≡ m
    pins_long = ap length pins_are ∙ (length-map (pins_of taken) (axis_pin d) ∙ (length_pins taken ∙ taken_long))

    pin_at_law : (i : ℕ) → i < length (get_or us j bare_net).pins → get_or (get_or us j bare_net).pins i no_pin ≡ pins_on d c.pins (start_of c.nets j + i)
    pin_at_law i h =
        let a = pins_long in let b = taken_long in let e = next_in in
        ap (λ (s : List AxisPin). get_or s i no_pin) pins_are
        ∙ (axis_pin_at d taken i (omega arith)
        ∙ (ap (λ (p : HeldPin). axis_pin d (pin_of p)) (get_d_first blank_pin m (drop (pins_before j c.nets) c.pins) i (omega arith) ∙ get_or-drop (pins_before j c.nets) c.pins i blank_pin)
        ∙ (pin_same d (get_or c.pins (pins_before j c.nets + i) blank_pin)
        ∙ pin_reads d c.n (get_or c.pins (pins_before j c.nets + i) blank_pin) pass.fine.mac_count (pass.fine.pin (pins_before j c.nets + i) (omega arith)))))

    module _ (tab : List ℕ) (h : NetsIn d c.nets c.pins tab (entry_count tab) c.t) (z : List ℕ) where
      net_as : AsNet tab z j (get_or us j bare_net)
      net_as =
          let n = next_is in let a = pins_long in
          let some : 0 < length (get_or us j bare_net).pins = let s = (pass.fine.net j l).some in omega arith in
          let f = (pass.fine.net j l).weight.high in
          let there = covered_there (pins_on d c.pins) (start_of c.nets) tab j (pins_small d c.pins) (entry_count tab) (9 * c.t) h.entered (omega arith) (get_or us j bare_net).pins (omega arith) pin_at_law some in
          let back = covered_back (pins_on d c.pins) (start_of c.nets) tab j (pins_small d c.pins) (entry_count tab) (9 * c.t) h.entered (omega arith) (get_or us j bare_net).pins (omega arith) pin_at_law some in
          record {
            weight = let x = h.weighed.here j l in let y = weight_is in omega arith;
            spans = sym (entries_spread z (get_or us j bare_net).pins _ there back);
          }

  pub chip_tabled : (tab : List ℕ) → NetsIn d c.nets c.pins tab (entry_count tab) c.t → Tabled d (chip_of c) tab
  unfolding chip_of
  chip_tabled tab h = record {
    long = λ z.
        let e = us_long in let f = pass.fine.net_count in
        nets_length_law tab z us 0 32 (omega arith)
        (λ i l. let q : i ≡ 0 + i = omega arith in subst (λ (k : ℕ). AsNet tab z k (get_or us i bare_net)) q (net_as i (omega arith) tab h z))
        (λ i l g. h.weighed.past (0 + i) (omega arith) (omega arith));
  }
