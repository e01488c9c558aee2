-- A value that holds a valid chip is fine: `held_fine`, `tested_fine`.
use Prim.Native.Nat.{ℕ, suc, ◌-◌, ◌≤◌, ◌<◌}
use native.Mathlib.Decide.{dec_lt}
use native.Mathlib.Omega.{arith}
use mathlib.Core.Path.{◌≡◌, sym, subst}
use mathlib.Core.Bool.{true}
use mathlib.Core.List.{List, [], ◌∷◌}
use lib.IntN.{sub_ℕ}
use lib.ListN.{length, get_or, drop, length-drop}
use lib.Seq.{get_or-drop}
use borrow.Author.Tests.{le-ltb, leb-true}
use Rattle.model.specs.declared.Net.{Net as HeldNet}
use Rattle.model.specs.declared.Pin.{Pin as HeldPin}
use Rattle.model.specs.declared.Chip.{Chip as HeldChip}
use Rattle.model.specs.Limits.{is_within, pin_place}
use Rattle.model.specs.Meaning.{first_of, blank_fix, blank_mac, blank_net, blank_pin, pin_of, pins_of, nets_of, chip_of}
use Rattle.model.proofs.FirstOf.{length_first, get_d_first, first_within, first_some}
use Rattle.model.proofs.Nets.{length_pins, length_nets}
use Rattle.text_grammar.specs.Reading.{accepted}
use Rattle.chip_text.specs.Text.{read_chip, chip_text}
use Rattle.chip_text.specs.Valid.{ValidPin, ValidNet, Valid, no_net, pins_before, HeldValidNet, HeldValidPin, HeldValid}
use Rattle.chip_text.proofs.Accepted.{accepted_valid}
use Rattle.chip_text.proofs.HeldNets.{get_d_pins, before_first, pins_mean, taken_first}
use Rattle.chip_text.proofs.HeldMeaning.{fix_held, mac_held, weight_held, net_held}

place_fine : (v : ℕ) → is_within pin_place (sub_ℕ v 4096) ≡ true → v ≤ 8192
place_fine v e = by (dec_lt v 4096)
  where
    by : Dec (v < 4096) → v ≤ 8192
    by (yes p) = omega arith
    by (no n) = let q = leb-true (v - 4096) 4096 (rw (le-ltb v 4096 (omega arith)) at e) in omega arith

pin_fine : (n : ℕ) (p : HeldPin) → ValidPin n (pin_of p) → HeldValidPin n p
pin_fine n p v = record { macro = v.macro; x = place_fine p.xup v.x; y = place_fine p.yup v.y }

-- the pins of a valid net
net_pins_fine : (n : ℕ) (t : HeldNet) (ps : List HeldPin) → t.pins ≤ length ps → ValidNet n (record { weight = t.weight; pins = pins_of (first_of blank_pin t.pins ps) }) → (i : ℕ) → i < t.pins → HeldValidPin n (get_or ps i blank_pin)
net_pins_fine n t ps h v i g =
    let l = length_first blank_pin t.pins ps h in
    pin_fine n _ (rw (get_d_pins (first_of blank_pin t.pins ps) i (omega arith), get_d_first blank_pin t.pins ps i g) at (v.pin i (rw length_pins (omega arith))))

-- the pins of valid nets
pins_fine : (n : ℕ) (ts : List HeldNet) (ps : List HeldPin) → pins_before (length ts) ts ≤ length ps → ((j : ℕ) → j < length (nets_of ts ps) → ValidNet n (get_or (nets_of ts ps) j no_net)) → (i : ℕ) → i < pins_before (length ts) ts → HeldValidPin n (get_or ps i blank_pin)
unfolding nets_of pins_before
pins_fine n [] ps h v i g = absurd (omega arith)
pins_fine n (t ∷ ts) ps h v i g = by (dec_lt i t.pins) (pins_fine n ts (drop t.pins ps) (rw length-drop (omega arith)) (λ j k. v (suc j) (omega arith)))
  where
    by : Dec (i < t.pins) → ((m : ℕ) → m < pins_before (length ts) ts → HeldValidPin n (get_or (drop t.pins ps) m blank_pin)) → HeldValidPin n (get_or ps i blank_pin)
    by (yes p) ih = net_pins_fine n t ps (omega arith) (v 0 (omega arith)) i p
    by (no q) ih = subst (λ (m : ℕ). HeldValidPin n (get_or ps m blank_pin)) (omega arith) (rw get_or-drop at (ih (i - t.pins) (omega arith)))

-- ---- a valid chip in arrays of full length

module _ (c : HeldChip) (f : length c.fixes ≡ 8) (m : length c.macs ≡ 8) (t : length c.nets ≡ 32) (p : length c.pins ≡ 128) where
  module _ (v : Valid (chip_of c)) where
    -- the counts are those of the meaning
    fixes_fit : c.k ≤ 8
    unfolding chip_of
    fixes_fit = rw f at (first_within blank_fix c.k c.fixes (rw f v.fix_count))

    macs_fit : c.n ≤ 8
    unfolding chip_of
    macs_fit = rw m at (first_within blank_mac c.n c.macs (rw m v.mac_count))

    nets_fit : c.t ≤ 32
    unfolding chip_of
    nets_fit = rw t at (first_within blank_net c.t c.nets (rw t (rw length_nets at v.net_count)))

    fix_count_law : length (chip_of c).fixes ≡ c.k
    unfolding chip_of
    fix_count_law = let q = fixes_fit in length_first blank_fix c.k c.fixes (omega arith)

    mac_count_law : length (chip_of c).macs ≡ c.n
    unfolding chip_of
    mac_count_law = let q = macs_fit in length_first blank_mac c.n c.macs (omega arith)

    net_count_law : length (first_of blank_net c.t c.nets) ≡ c.t
    net_count_law = let q = nets_fit in length_first blank_net c.t c.nets (omega arith)

    -- the nets that are counted, with all of their pins
    pins_same : pins_before (length (first_of blank_net c.t c.nets)) (first_of blank_net c.t c.nets) ≡ pins_before c.t c.nets
    pins_same = rw net_count_law (before_first c.t c.t c.nets (omega arith))

    pins_fit : pins_before c.t c.nets ≤ length c.pins
    unfolding chip_of
    pins_fit = let q = v.pins in let n = pins_mean (first_of blank_net c.t c.nets) c.pins in let b = taken_first c.t c.nets in omega arith

    net_valid : (j : ℕ) → j < c.t → ValidNet c.n (get_or (chip_of c).nets j no_net)
    unfolding chip_of
    net_valid j h = rw mac_count_law at (v.net j (rw (length_nets, net_count_law) h))

    net_fine : (j : ℕ) → j < c.t → HeldValidNet (get_or c.nets j blank_net)
    net_fine j h =
        let w = net_valid j h in
        record {
          weight = rw (weight_held c j h) at w.weight;
          some = first_some blank_pin (get_or c.nets j blank_net).pins (drop (pins_before j c.nets) c.pins) (rw (net_held c j h, length_pins) at w.some);
        }

    pin_all_fine : (i : ℕ) → i < pins_before c.t c.nets → HeldValidPin c.n (get_or c.pins i blank_pin)
    unfolding chip_of
    pin_all_fine i h = pins_fine c.n (first_of blank_net c.t c.nets) c.pins (rw pins_same pins_fit) (λ j g. net_valid j (rw (length_nets, net_count_law) at g)) i (rw pins_same h)

    -- a value that means a valid chip is fine
    pub held_fine : HeldValid c
    unfolding chip_of
    held_fine = record {
      die_w = v.die_w;
      die_h = v.die_h;
      fix_count = fixes_fit;
      mac_count = macs_fit;
      net_count = nets_fit;
      pins = rw p at pins_fit;
      fix = λ i h. rw (fix_held c i h) at (v.fix i (rw fix_count_law h));
      mac = λ i h. rw (mac_held c i h) at (v.mac i (rw mac_count_law h));
      net = net_fine;
      pin = pin_all_fine;
    }

  -- a value whose text is accepted is fine
  pub tested_fine : accepted (chip_of c) ≡ read_chip (chip_text (chip_of c)) → HeldValid c
  tested_fine e = held_fine (accepted_valid (chip_text (chip_of c)) (chip_of c) (sym e))
