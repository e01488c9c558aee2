-- What a pin line adds: one pin more to the last net.
use mathlib.Core.Path.{◌≡◌, refl, sym, ap, ◌∙◌}
use mathlib.Core.List.{List, [], ◌∷◌, ◌++◌}
use Prim.Native.Nat.{ℕ, ◌+◌, ◌-◌, ◌<◌}
use native.Mathlib.Omega.{arith}
use lib.ListN.{length, get_or, drop, set, length-drop}
use lib.Seq.{drop-set-add}
use mir.Syntax.{w64}
use mir.Val.{Fits}
use Rattle.model.specs.declared.Refusal.{Refusal}
use Rattle.std.specs.Prelude.{Result, Ok, Err, Option, Some, None}
use Rattle.model.specs.declared.Net.{Net as HeldNet}
use Rattle.model.specs.declared.Pin.{Pin as HeldPin}
use Rattle.model.specs.declared.Chip.{Chip as HeldChip}
use Rattle.model.specs.Counted.{taken}
use Rattle.model.specs.Meaning.{Pin, Net, chip_of, first_of, nets_of, pin_of, pins_of, blank_net, blank_pin}
use Rattle.model.specs.Made.{made_pin, remake_pin}
use Rattle.model.proofs.Holding.{holds_more, holds_set}
use Rattle.model.proofs.FirstOf.{first_suc, first_set}
use Rattle.model.proofs.Nets.{taken_snoc, nets_snoc, nets_kept, pins_append}
use Rattle.model.specs.Step.{Step, fault}
use Rattle.text_grammar.specs.Steps.{Entered}
use Rattle.chip_read.proofs.MadeOf.{the_pin}
use Rattle.chip_text.specs.declared.ChipWord.TheVariants as word
use Rattle.chip_text.specs.Kind.{Part, chip_kind, add, add_pin, read_to, with_pin}
use Rattle.chip_text.specs.Faults.{macro_fault}
use Rattle.chip_text.proofs.Faults.{pin_adds}
use Rattle.text_grammar.proofs.Entry.{found_or, found_none, found_fault}
use Rattle.chip_read.specs.declared.State.{State}
use Rattle.chip_read.specs.State.{Sound, part_of, chip_values, TakenOk}
use Rattle.chip_read.proofs.Values.{held_pin, pin_values}
use Rattle.chip_read.proofs.Room.{mac_count_law}
use Rattle.chip_read.proofs.Entry.{pin_fits, net_open}

abbrev one_pin : HeldNet → HeldNet
one_pin u = record { weight = u.weight; pins = u.pins + 1 }

-- ---- the nets that are meant

add_pin_last : (p : Pin) (ts : List Net) (u : Net) → add_pin p (ts ++ (u ∷ [])) ≡ ts ++ (record { weight = u.weight; pins = u.pins ++ (p ∷ []) } ∷ [])
unfolding add_pin
add_pin_last p [] u = refl
add_pin_last p (t ∷ []) u = refl
add_pin_last p (t ∷ (t₂ ∷ ts)) u = ap (λ (more : List Net). t ∷ more) (add_pin_last p (t₂ ∷ ts) u)

-- a pin stored after all that the nets take
nets_pin : (ts : List HeldNet) (u : HeldNet) (ps : List HeldPin) (p : HeldPin) → taken ts + u.pins < length ps → nets_of (ts ++ (one_pin u ∷ [])) (set ps (taken ts + u.pins) p) ≡ add_pin (pin_of p) (nets_of (ts ++ (u ∷ [])) ps)
unfolding pins_of
nets_pin ts u ps p h =
    rw (
      nets_snoc ts (one_pin u) (set ps (taken ts + u.pins) p),
      nets_kept ts (taken ts + u.pins) ps p (omega arith),
      drop-set-add (taken ts) ps u.pins p,
      first_set blank_pin u.pins (drop (taken ts) ps) p (rw length-drop (omega arith)),
      pins_append (first_of blank_pin u.pins (drop (taken ts) ps)) (p ∷ []),
    )
    (sym (rw (nets_snoc ts u ps) (add_pin_last (pin_of p) (nets_of ts ps) _)))

-- ---- the last net

module _ (s : State) (sound : Sound s) (entered : Entered chip_kind (part_of s) word.Pin) where
  abbrev place : ℕ
  place = s.chip.t - 1

  abbrev net : HeldNet
  net = get_or s.chip.nets place blank_net

  abbrev before : List HeldNet
  before = first_of blank_net place s.chip.nets

  place_fits : place < length s.chip.nets
  place_fits = omega (arith, net_open s sound entered, sound.nets.few, sound.nets.long)

  last_net_law : first_of blank_net s.chip.t s.chip.nets ≡ before ++ (net ∷ [])
  last_net_law = ap (λ (m : ℕ). first_of blank_net m s.chip.nets) (omega (arith, net_open s sound entered)) ∙ first_suc blank_net place s.chip.nets place_fits

  last_pinned : first_of blank_net s.chip.t (set s.chip.nets place (one_pin net)) ≡ before ++ (one_pin net ∷ [])
  last_pinned = ap (λ (m : ℕ). first_of blank_net m (set s.chip.nets place (one_pin net))) (omega (arith, net_open s sound entered)) ∙ first_set blank_net place s.chip.nets (one_pin net) place_fits

  all_pins : taken before + net.pins ≡ s.pins
  all_pins = sym (taken_snoc before net) ∙ ap taken (sym last_net_law) ∙ sound.counted

  pub net_fits_one : Fits w64 (net.pins + 1)
  net_fits_one = omega (arith, all_pins, pin_fits s sound entered)

  module _ (v : List ℕ) (four : length v ≡ 4) (l : ℕ) where
    -- the step of the pin p, by the fault of its macro m
    abbrev add_pinned : ℕ → Pin → Step Part
    add_pinned m p = found_or (macro_fault (length (chip_of s.chip).macs) m) (read_to word.Pin (with_pin (chip_of s.chip) p))

    step_pin : add (part_of s) word.Pin (chip_values word.Pin v) ≡ add_pinned (get_or v 0 0) (pin_of (held_pin v))
    step_pin = pin_adds (part_of s) (chip_values word.Pin v) ∙ ap (λ (p : Pin). add_pinned p.m p) (pin_values v four)

    module _ (no : ℕ) (e : no ≡ macro_fault s.chip.n (get_or v 0 0)) where
      by_fault : add (part_of s) word.Pin (chip_values word.Pin v) ≡ found_or no (read_to word.Pin (with_pin (chip_of s.chip) (pin_of (held_pin v))))
      by_fault = step_pin ∙ rw (mac_count_law s sound, e)

      pub no_macro : (no ≡ 0 → ⊥) → TakenOk (Err (record { no = no; line = l })) l (add (part_of s) word.Pin (chip_values word.Pin v))
      no_macro z = rw by_fault (record { ok = record { meant = found_fault no _ z; at = refl }; sound = tt })

    abbrev hold_pin : HeldPin → HeldChip
    hold_pin p = record { die = s.chip.die; k = s.chip.k; fixes = s.chip.fixes; n = s.chip.n; macs = s.chip.macs; t = s.chip.t; nets = set s.chip.nets place (one_pin net); pins = set s.chip.pins s.pins p }

    nets_with : (p : HeldPin) → nets_of (first_of blank_net s.chip.t (set s.chip.nets place (one_pin net))) (set s.chip.pins s.pins p) ≡ add_pin (pin_of p) (nets_of (first_of blank_net s.chip.t s.chip.nets) s.chip.pins)
    nets_with p = rw (last_pinned, last_net_law, ← all_pins) (nets_pin before net s.chip.pins p (omega (arith, all_pins, pin_fits s sound entered, sound.pins.long)))

    pub pin_added : (no : ℕ) → no ≡ macro_fault s.chip.n (get_or v 0 0) → no ≡ 0 → (m : Option HeldPin) → made_pin m ≡ remake_pin (held_pin v) → (p : HeldPin) → m ≡ Some p → TakenOk (Ok (record { last = Some word.Pin; pins = s.pins + 1; chip = hold_pin p })) l (add (part_of s) word.Pin (chip_values word.Pin v))
    unfolding chip_of
    pin_added n e z m o p q =
        record {
          ok = record { meant = rw (← the_pin (held_pin v) m o p q, nets_with p) (found_none n _ z) ∙ sym (by_fault n e); at = refl };
          sound = record {
            fixes = sound.fixes;
            macs = sound.macs;
            nets = holds_set sound.nets place (one_pin net) (omega (arith, net_open s sound entered));
            pins = holds_more sound.pins p (pin_fits s sound entered);
            counted = ap taken last_pinned ∙ taken_snoc before (one_pin net) ∙ omega (arith, all_pins);
            opened = λ o. net_open s sound entered;
          };
        }
