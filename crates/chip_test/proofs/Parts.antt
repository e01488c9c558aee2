-- What has been read before each item of a chip, and the step at each kind of item.
use mathlib.Core.Path.{◌≡◌, refl, sym, ap, ◌∙◌}
use mathlib.Core.Bool.{Bool, true, false, not, or-true, or-false}
use mathlib.Core.List.{List, [], ◌∷◌}
use Prim.{tt}
use Prim.Native.Nat.{ℕ, suc, ◌+◌, ◌≤◌, ◌<◌}
use native.Mathlib.Omega.{arith}
use lib.Dec.{ltb, eqb}
use lib.ListN.{length, get_or, take, drop, length-append, length-take}
use lib.Seq.{take-suc, get_or-drop}
use borrow.Author.Tests.{ltb-true, ne_eqb}
use Rattle.model.specs.declared.Die.{Die}
use Rattle.model.specs.declared.Fix.{Fix}
use Rattle.model.specs.declared.Mac.{Mac}
use Rattle.model.specs.declared.Net.{Net as HeldNet}
use Rattle.model.specs.declared.Pin.{Pin as HeldPin}
use Rattle.model.specs.Meaning.{Pin, Net, blank_fix, blank_mac, blank_net, blank_pin, pin_of}
use Rattle.text_grammar.specs.Words.{same, is_in}
use Rattle.text_grammar.specs.Reading.{is_last}
use Rattle.text_grammar.proofs.Every.{Every}
use Rattle.text_grammar.proofs.Items.{item_step}
use Rattle.text_grammar.specs.Steps.{need}
use Rattle.chip_text.specs.declared.ChipWord.{ChipWord}
use Rattle.chip_text.specs.declared.ChipWord.TheVariants as word
use Rattle.chip_text.specs.Words.{chip_words}
use Rattle.chip_text.specs.Kind.{Part, start, followers, pin_count, add_pin, chip_kind}
use Rattle.chip_text.specs.Text.{die_item, fix_item, mac_item, pin_item, end_item}
use Rattle.chip_print.specs.Items.{weight_item}
use Rattle.chip_faults.specs.Faults.{die_fault, fix_fault, mac_fault, bare_before, net_fault, pin_fault}
use Rattle.chip_text.proofs.Faults.{fix_adds, pin_adds}
use Rattle.chip_text.proofs.NetsRead.{count_net, length_pin}
use Rattle.chip_test.proofs.Fields.{die_fields, fix_fields, mac_fields, net_fields, pin_fields, end_fields}
use Rattle.chip_test.proofs.Steps.{Steps, goes, steps_found, item_steps}

-- the words ws may be next
abbrev Open : Part → List ChipWord → Type 0
Open s ws = Every (λ w. is_in chip_words w (followers s.last) ≡ true) ws

abbrev last_net : Part → Bool
last_net s = is_last chip_words s.last word.Net

-- i fixes have been read
pub record Fixes (d : Die) (fs : List Fix) (i : ℕ) (s : Part) : Type 0 where
  pub places : Open s (word.Fix ∷ word.Mac ∷ word.Net ∷ word.End ∷ [])
  pub last : last_net s ≡ false
  pub die : s.chip.die ≡ d
  pub fixes : s.chip.fixes ≡ take i fs
  pub macs : s.chip.macs ≡ []
  pub nets : s.chip.nets ≡ []
  pub few : i ≤ 8

-- i macros
pub record Macs (i : ℕ) (s : Part) : Type 0 where
  pub places : Open s (word.Mac ∷ word.Net ∷ word.End ∷ [])
  pub last : last_net s ≡ false
  pub macs : length s.chip.macs ≡ i
  pub nets : s.chip.nets ≡ []
  pub few : i ≤ 8

-- j nets with q pins, of a chip with n macros
pub record Nets (n : ℕ) (ts : List HeldNet) (q j : ℕ) (s : Part) : Type 0 where
  pub places : Open s (word.Net ∷ word.End ∷ [])
  pub last : last_net s ≡ bare_before ts j
  pub macs : length s.chip.macs ≡ n
  pub nets : length s.chip.nets ≡ j
  pub pins : pin_count s.chip.nets ≡ q
  pub few : (j ≤ 32) × (q ≤ 128)

-- i pins of net j, after q pins of the nets before it
pub record Pins (n q j i : ℕ) (s : Part) : Type 0 where
  pub places : Open s (word.Net ∷ word.Pin ∷ word.End ∷ [])
  pub last : last_net s ≡ eqb i 0
  pub macs : length s.chip.macs ≡ n
  pub nets : length s.chip.nets ≡ suc j
  pub pins : pin_count s.chip.nets ≡ q + i
  pub few : (j < 32) × (q + i ≤ 128)

pub record Ended (s : Part) : Type 0 where
  pub last : is_last chip_words s.last word.End ≡ true

pub die_steps : (d : Die) (fs : List Fix) → Steps (Fixes d fs 0) (item_step chip_kind start (die_item d)) (die_fault d)
unfolding is_in same
die_steps d fs = item_steps start (die_item d) _ (die_fields d) refl true true 0 refl refl (λ e. goes _ refl (record { places = (refl, (refl, (refl, (refl, tt)))); last = refl; die = refl; fixes = refl; macs = refl; nets = refl; few = omega arith }))

pub fix_steps : (d : Die) (fs : List Fix) → length fs ≡ 8 → (i : ℕ) (s : Part) → Fixes d fs i s → Steps (Fixes d fs (suc i)) (item_step chip_kind s (fix_item (get_or fs i blank_fix))) (fix_fault d fs i)
unfolding is_in same
fix_steps d fs l i s p =
    let f : Fix = get_or fs i blank_fix in
    let h : i ≤ 8 = p.few in
    let n : length (take i fs) ≡ i = length-take i fs ∙ omega arith in
    item_steps s (fix_item f) _ (fix_fields f) p.places.0 (ltb i 8) true _ (rw (p.fixes, n)) (rw p.last)
    (λ r. rw (fix_adds s f, p.die, p.fixes) (steps_found _ _ (
    let g : i < 8 = ltb-true i 8 r in
    goes _ refl (record { places = (refl, (refl, (refl, (refl, tt)))); last = refl; die = refl; fixes = sym (take-suc fs i blank_fix (omega arith)); macs = p.macs; nets = p.nets; few = omega arith }))))

-- macros follow the fixes
pub macs_next : {d : Die} {fs : List Fix} {i : ℕ} (s : Part) → Fixes d fs i s → Macs 0 s
macs_next s p = record { places = p.places.1; last = p.last; macs = ap length p.macs; nets = p.nets; few = omega arith }

pub mac_steps : (ms : List Mac) → (i : ℕ) (s : Part) → Macs i s → Steps (Macs (suc i)) (item_step chip_kind s (mac_item (get_or ms i blank_mac))) (mac_fault ms i)
unfolding is_in same
mac_steps ms i s p =
    item_steps s (mac_item (get_or ms i blank_mac)) _ (mac_fields (get_or ms i blank_mac)) p.places.0 (ltb i 8) true 0 (rw p.macs) (rw p.last)
    (λ r.
    let g : i < 8 = ltb-true i 8 r in
    goes _ refl (record { places = (refl, (refl, (refl, tt))); last = refl; macs = rw (length-append, p.macs) (omega arith); nets = p.nets; few = omega arith }))

pub nets_next : {i : ℕ} (ts : List HeldNet) (s : Part) → Macs i s → Nets i ts 0 0 s
unfolding pin_count
nets_next ts s p = record { places = p.places.1; last = p.last; macs = p.macs; nets = ap length p.nets; pins = ap pin_count p.nets; few = (omega arith, omega arith) }

pins_pin : (p : Pin) (ts : List Net) → 0 < length ts → pin_count (add_pin p ts) ≡ suc (pin_count ts)
unfolding pin_count add_pin
pins_pin p [] h = absurd (omega arith)
pins_pin p (t ∷ []) h = rw length-append (omega arith)
pins_pin p (t ∷ (u ∷ ts)) h = let q = pins_pin p (u ∷ ts) (omega arith) in omega arith

module _ (n : ℕ) (ts : List HeldNet) where
  pub net_steps : (q j : ℕ) (s : Part) → Nets n ts q j s → Steps (Pins n q j 0) (item_step chip_kind s (weight_item (get_or ts j blank_net))) (net_fault ts j)
  unfolding is_in same
  net_steps q j s p =
      item_steps s (weight_item (get_or ts j blank_net)) _ (net_fields (get_or ts j blank_net)) p.places.0 (ltb j 32) (not (bare_before ts j)) 0 (rw p.nets) (rw (p.last, or-false))
      (λ r.
      let g : j < 32 = ltb-true j 32 r in
      let h : q ≤ 128 = p.few.1 in
      goes _ refl (record { places = (refl, (refl, (refl, tt))); last = refl; macs = p.macs; nets = rw (length-append, p.nets) (omega arith); pins = rw (count_net, p.pins) (omega arith); few = (g, omega arith) }))

  pub end_steps : (q j : ℕ) (s : Part) → Nets n ts q j s → Steps Ended (item_step chip_kind s end_item) (need (not (bare_before ts j)) 7 0)
  unfolding same
  end_steps q j s p = item_steps s end_item true end_fields p.places.1.0 true (not (bare_before ts j)) 0 refl (rw (p.last, or-false)) (λ r. goes _ refl (record { last = refl }))

  -- the next net follows the pins of net j
  pub net_next : (q j : ℕ) (s : Part) → Pins n q j (get_or ts j blank_net).pins s → Nets n ts (q + (get_or ts j blank_net).pins) (suc j) s
  net_next q j s p = record { places = (p.places.0, p.places.1.1); last = p.last; macs = p.macs; nets = p.nets; pins = p.pins; few = p.few }

pub pin_steps : (n : ℕ) (ps : List HeldPin) (q j i : ℕ) (s : Part) → Pins n q j i s → Steps (Pins n q j (suc i)) (item_step chip_kind s (pin_item (pin_of (get_or (drop q ps) i blank_pin)))) (pin_fault ps n (q + i))
unfolding is_in same
pin_steps n ps q j i s p =
    let x : HeldPin = get_or ps (q + i) blank_pin in
    rw (get_or-drop q ps i blank_pin)
    (item_steps s (pin_item (pin_of x)) _ (pin_fields x) p.places.1.0 (ltb (q + i) 128) true _ (rw p.pins) (rw or-true)
    (λ r. rw (pin_adds s (pin_item (pin_of x)).values, p.macs) (steps_found _ _ (
    let g : q + i < 128 = ltb-true (q + i) 128 r in
    let c = p.pins in
    let l = p.nets in
    let k = pins_pin (pin_of x) s.chip.nets (omega arith) in
    goes _ refl (record { places = (refl, (refl, (refl, tt))); last = sym (ne_eqb (suc i) 0 (λ e. omega arith)); macs = p.macs; nets = length_pin _ _ ∙ l; pins = omega arith; few = (p.few.0, omega arith) })))))
