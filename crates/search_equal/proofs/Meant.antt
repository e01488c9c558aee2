-- Nets of a chip's arrays that have mates are nets with mates of the chip that the arrays mean.
use Prim.Native.Nat.{ℕ, suc, ◌+◌, ◌-◌, ◌≤◌, ◌<◌}
use mathlib.Core.Path.{◌≡◌, sym, ap, ◌∙◌}
use mathlib.Core.Bool.{Bool, true, ◌&&◌}
use mathlib.Core.List.{List}
use native.Mathlib.Omega.{arith}
use lib.ListN.{length, get_or, drop, length-drop}
use lib.Seq.{get_or-drop}
use lib.Dec.{eqb}
use borrow.Author.Tests.{eqb-true}
use Rattle.model.specs.declared.Mac.{Mac}
use Rattle.model.specs.declared.Pin.{Pin as HeldPin}
use Rattle.model.specs.declared.Chip.{Chip as HeldChip}
use Rattle.model.specs.Meaning.{Pin, first_of, blank_mac, blank_net, blank_pin, pin_of, chip_of}
use Rattle.model.proofs.FirstOf.{length_first, get_d_first}
use Rattle.model.proofs.Nets.{length_pins, length_nets}
use Rattle.chip_text.specs.Valid.{no_pin, pins_before}
use Rattle.chip_text.proofs.HeldNets.{get_d_pins, pins_before_more, pins_before_up}
use Rattle.chip_text.proofs.HeldMeaning.{mac_held, weight_held, net_held}
use Rattle.chip_text.proofs.Passing.{Whole}
use Rattle.text_grammar.proofs.Lacks.{and_left, and_right}
use Rattle.search_halves.specs.Exchange.{other_pin, OneOf, net_at, Alike}
use Rattle.search_equal.specs.Answer.{Yes}
use Rattle.search_equal.specs.Held.{other_held, Within, Turns, NetsAlike}

module _ (c : HeldChip) (w : Whole c) (few : c.t ≤ 32) (fit : pins_before c.t c.nets ≤ 128) where
  nets_long : length (chip_of c).nets ≡ c.t
  unfolding chip_of
  nets_long = let l = w.nets in length_nets (first_of blank_net c.t c.nets) c.pins ∙ length_first blank_net c.t c.nets (omega arith)

  -- a net of the chip and its pins
  module _ (a : ℕ) (l : a < c.t) where
    abbrev from : ℕ
    from = pins_before a c.nets

    abbrev m : ℕ
    m = (get_or c.nets a blank_net).pins

    abbrev taken : List HeldPin
    taken = first_of blank_pin m (drop from c.pins)

    taken_long : length taken ≡ m
    taken_long =
        let p = length-drop from c.pins in let q = w.pins in
        let u = pins_before_up (suc a) c.t c.nets l in let n = pins_before_more a c.nets in
        length_first blank_pin m (drop from c.pins) (omega arith)

    pins_long : length (net_at (chip_of c) a).pins ≡ m
    pins_long = ap length (net_held c a l) ∙ (length_pins taken ∙ taken_long)

    pin_at_law : (k : ℕ) → k < m → get_or (net_at (chip_of c) a).pins k no_pin ≡ pin_of (get_or c.pins (from + k) blank_pin)
    pin_at_law k h =
        let t = taken_long in
        ap (λ (s : List Pin). get_or s k no_pin) (net_held c a l)
        ∙ (get_d_pins taken k (omega arith)
        ∙ ap pin_of (get_d_first blank_pin m (drop from c.pins) k h ∙ get_or-drop from c.pins k blank_pin))

  one_of : (b : ℕ) → (l : b < c.t) → (p : HeldPin) → Within c.pins (pins_before b c.nets) (pins_before (suc b) c.nets) p → OneOf (net_at (chip_of c) b).pins (pin_of p)
  one_of b l p h =
      let lo = h.low in let hi = h.high in
      let n = pins_before_more b c.nets in let t = pins_long b l in
      let q : pins_before b c.nets + (h.place - pins_before b c.nets) ≡ h.place = omega arith in
      record {
        place = h.place - pins_before b c.nets;
        lt = omega arith;
        is = pin_at_law b l (h.place - pins_before b c.nets) (omega arith) ∙ ap pin_of (ap (λ (x : ℕ). get_or c.pins x blank_pin) q ∙ h.is);
      }

  pin_turned : (i j a b : ℕ) → (la : a < c.t) → b < c.t → Turns c.nets c.pins i j a b → (k : ℕ) → k < length (net_at (chip_of c) a).pins → OneOf (net_at (chip_of c) b).pins (other_pin i j (get_or (net_at (chip_of c) a).pins k no_pin))
  pin_turned i j a b la lb t k l =
      let n = pins_before_more a c.nets in let e = pins_long a la in
      rw (pin_at_law a la k (omega arith))
      (one_of b lb (other_held i j (get_or c.pins (pins_before a c.nets + k) blank_pin)) (t.covers.at (pins_before a c.nets + k) (omega arith) (omega arith)))

abbrev mac_of : ℕ → ℕ → Mac
mac_of w h = record { w = w; h = h }

sizes_same : (a b : Mac) → (eqb a.w b.w && eqb a.h b.h) ≡ true → a ≡ b
sizes_same a b e =
    ap (λ (x : ℕ). mac_of x a.h) (eqb-true a.w b.w (and_left (eqb a.w b.w) (eqb a.h b.h) e))
    ∙ ap (mac_of b.w) (eqb-true a.h b.h (and_right (eqb a.w b.w) (eqb a.h b.h) e))

module _ (c : HeldChip) (w : Whole c) (i j : ℕ) (many : c.n ≤ 8) (few : c.t ≤ 32) (li : i < c.n) (lj : j < c.n) where
  macs_long : length (chip_of c).macs ≡ c.n
  unfolding chip_of
  macs_long = let l = w.macs in length_first blank_mac c.n c.macs (omega arith)

  pub macs_alike : (q r : Bool) → q ≡ (eqb (get_or c.macs i blank_mac).w (get_or c.macs j blank_mac).w && eqb (get_or c.macs i blank_mac).h (get_or c.macs j blank_mac).h) → q ≡ true → Yes r (NetsAlike c.nets c.pins c.t i j) → Yes r (Alike (chip_of c) i j)
  macs_alike q r same o s = record { then = λ e. by (s.then e) }
    where
      by : NetsAlike c.nets c.pins c.t i j → Alike (chip_of c) i j
      by h =
          let f = h.fit in let n = nets_long c w few f in
          let inside : (a : ℕ) → a < c.t → get_or h.mates a 0 < c.t = h.all.inside in
          record {
            first = let m = macs_long in omega arith;
            second = let m = macs_long in omega arith;
            size = mac_held c i li ∙ (sizes_same (get_or c.macs i blank_mac) (get_or c.macs j blank_mac) (sym same ∙ o) ∙ sym (mac_held c j lj));
            mate = λ a. get_or h.mates a 0;
            inside = λ a l. let p = inside a (omega arith) in omega arith;
            back = λ a l. h.all.back a (omega arith);
            weight = λ a l. weight_held c (get_or h.mates a 0) (inside a (omega arith)) ∙ ((h.all.turns a (omega arith)).weight ∙ sym (weight_held c a (omega arith)));
            pins = λ a l k g. pin_turned c w few f i j a (get_or h.mates a 0) (omega arith) (inside a (omega arith)) (h.all.turns a (omega arith)) k g;
          }
