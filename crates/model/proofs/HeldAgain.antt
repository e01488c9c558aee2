-- A chip held as a value, with blank items past its counts, is held again from what it means.
use mathlib.Core.Path.{◌≡◌, refl, ap, ap₂, ◌∙◌}
use mathlib.Core.List.{List, [], ◌∷◌, ◌++◌, map, flat_map}
use Prim.Native.Nat.{ℕ, suc, ◌+◌, ◌-◌, ◌≤◌, ◌<◌}
use native.Mathlib.Decide.{dec_lt}
use native.Mathlib.Omega.{arith}
use lib.ListN.{length, take, drop, length-drop}
use lib.Seq.{take-add}
use lib.IntN.{sub_ℕ}
use borrow.Author.Tests.{lt-ltb, le-ltb}
use Rattle.model.specs.declared.Net.{Net as HeldNet}
use Rattle.model.specs.declared.Pin.{Pin as HeldPin}
use Rattle.model.specs.declared.Chip.{Chip as HeldChip}
use Rattle.model.specs.Limits.{most_fixes, most_macs, most_nets, most_pins}
use Rattle.model.specs.Meaning.{Net, chip_of, first_of, pin_of, pins_of, nets_of, blank_fix, blank_mac, blank_net, blank_pin, pin_up}
use Rattle.model.specs.Counted.{taken, Holds}
use Rattle.model.specs.Held.{raised, held_net, held_pin, held_chip}
use Rattle.model.proofs.FirstOf.{first_take, length_first}
use Rattle.model.proofs.Nets.{pins_append, length_pins, length_nets}
use Rattle.model.proofs.Holding.{holds_all, filled_again}

pub raised_again : (u v : ℕ) → raised u (sub_ℕ v u) ≡ v
raised_again u v = by (dec_lt v u)
  where
    by : Dec (v < u) → raised u (sub_ℕ v u) ≡ v
    by (yes h) = rw (lt-ltb v u h, le-ltb u (suc (u - suc v)) (omega arith)) (omega arith)
    by (no h) = rw (le-ltb v u (omega arith)) (omega arith)

pin_again : (p : HeldPin) → held_pin (pin_of p) ≡ p
pin_again p = rw (raised_again pin_up p.xup, raised_again pin_up p.yup)

pins_again : (ps : List HeldPin) → map held_pin (pins_of ps) ≡ ps
unfolding pins_of
pins_again [] = refl
pins_again (p ∷ ps) = ap₂ ◌∷◌ (pin_again p) (pins_again ps)

-- nets whose pins all stand in the list
nets_again : (ts : List HeldNet) (ps : List HeldPin) → taken ts ≤ length ps → map held_net (nets_of ts ps) ≡ ts
unfolding nets_of taken
nets_again [] ps h = refl
nets_again (t ∷ ts) ps h =
    ap₂ ◌∷◌ (rw (length_pins (first_of blank_pin t.pins ps), length_first blank_pin t.pins ps (omega arith)))
    (nets_again ts (drop t.pins ps) (rw length-drop (omega arith)))

all_pins : (ts : List HeldNet) (ps : List HeldPin) → taken ts ≤ length ps → flat_map (λ (t : Net). t.pins) (nets_of ts ps) ≡ pins_of (first_of blank_pin (taken ts) ps)
unfolding nets_of taken flat_map first_of pins_of
all_pins [] ps h = refl
all_pins (t ∷ ts) ps h =
    ap (λ (more : _). pins_of (first_of blank_pin t.pins ps) ++ more) (all_pins ts (drop t.pins ps) (rw length-drop (omega arith)))
    ∙ rw (
      first_take blank_pin (t.pins + taken ts) ps h,
      first_take blank_pin t.pins ps (omega arith),
      first_take blank_pin (taken ts) (drop t.pins ps) (rw length-drop (omega arith)),
      take-add t.pins (taken ts) ps,
      pins_append (take t.pins ps) (take (taken ts) (drop t.pins ps)),
    )

module _ (c : HeldChip) (q : ℕ) (fixes : Holds blank_fix most_fixes c.k c.fixes) (macs : Holds blank_mac most_macs c.n c.macs) (nets : Holds blank_net most_nets c.t c.nets) (pins : Holds blank_pin most_pins q c.pins) (counted : taken (first_of blank_net c.t c.nets) ≡ q) where
  enough : taken (first_of blank_net c.t c.nets) ≤ length c.pins
  enough = rw counted (holds_all pins)

  pub held_again : held_chip (chip_of c) ≡ c
  unfolding chip_of
  held_again =
      rw (
        nets_again (first_of blank_net c.t c.nets) c.pins enough,
        all_pins (first_of blank_net c.t c.nets) c.pins enough,
        pins_again (first_of blank_pin (taken (first_of blank_net c.t c.nets)) c.pins),
        counted,
        length_nets (first_of blank_net c.t c.nets) c.pins,
        filled_again blank_fix most_fixes c.k c.fixes fixes,
        filled_again blank_mac most_macs c.n c.macs macs,
        filled_again blank_net most_nets c.t c.nets nets,
        filled_again blank_pin most_pins q c.pins pins,
        length_first blank_fix c.k c.fixes (holds_all fixes),
        length_first blank_mac c.n c.macs (holds_all macs),
        length_first blank_net c.t c.nets (holds_all nets),
      )
