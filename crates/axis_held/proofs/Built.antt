-- Slots written into an array one after the other. A loop keeps what is still to be written: the whole run of stores is the run
-- that is left, into the array as it stands.
use mathlib.Core.Path.{◌≡◌, refl, sym, ap, subst, ◌∙◌}
use mathlib.Core.List.{List, ◌∷◌, ◌++◌}
use Prim.Native.Nat.{ℕ, zero, suc, ◌+◌, ◌-◌, ◌*◌, ◌≤◌, ◌<◌}
use native.Mathlib.Omega.{arith}
use mir.Syntax.{w64}
use mir.Val.{Fits}
use lib.ListN.{length, get_or, replicate, take, drop, set, length-take, length-drop, drop_of_length-le}
use lib.Seq.{sets, sets-eq, drop-cons, drop-drop, get_or-take}
use borrow.Rule.Slice.PartMut.{put_mid}
use Rattle.std.proofs.Common.{append_assoc}
use Rattle.num_laws.proofs.Stores.{sets_append}
use Rattle.axis_bounds.specs.declared.Slot.{Slot}
use Rattle.axis_bounds.specs.declared.AxisPin.{AxisPin}
use Rattle.axis_bounds.specs.declared.AxisNet.{AxisNet}
use Rattle.axis_bounds.specs.Axis.{no_pin, no_net, nets_of}
use Rattle.axis_bounds.specs.Listed.{slot, die_slots, pin_slots, net_slots}
use Rattle.axis_bounds.specs.Graph.{far}
use Rattle.axis_bounds.specs.Held.{pins_before}
use Rattle.axis_bounds.proofs.Counts.{length_pins}
use Rattle.axis_graph.specs.Solved.{no_span}
use Rattle.axis_held.specs.Ends.{ends_of}
use Rattle.axis_graph.specs.Build.{SpansTo}
use Rattle.axis_held.proofs.NetPins.{pins_next, pins_within, pin_of_law}

-- ---- runs of stores

next : (i : ℕ) → suc i ≡ i + 1
next i = omega arith

one_more : (r : List Slot) (k : ℕ) (a : Slot) (c : List Slot) (k1 : ℕ) → k1 ≡ suc k → sets r k (a ∷ c) ≡ sets (set r k a) k1 c
one_more r k a c k1 e = ap (λ (j : ℕ). sets (set r k a) j c) (sym e)

two_more : (r : List Slot) (k : ℕ) (a b : Slot) (c : List Slot) (k1 k2 : ℕ) → k1 ≡ suc k → k2 ≡ suc k1 → sets r k (a ∷ b ∷ c) ≡ sets (set (set r k a) k1 b) k2 c
two_more r k a b c k1 k2 e f = one_more r k a (b ∷ c) k1 e ∙ one_more (set r k a) k1 b c k2 f

-- ---- the macros' slots: those of the first i are written

pub record DiePut (side n : ℕ) (ws : List ℕ) (ss r : List Slot) (i : ℕ) : Type 0 where
  pub rest : sets ss 0 (die_slots side 1 (take n ws)) ≡ sets r (2 * i) (die_slots side (suc i) (drop i (take n ws)))

module _ (side n : ℕ) (ws : List ℕ) (ss : List Slot) where
  module _ (r : List Slot) (i : ℕ) (h : DiePut side n ws ss r i) where
    pub die_more : length ws ≡ 8 → n ≤ 8 → i < n → DiePut side n ws ss (set (set r (2 * i) (slot 0 (i + 1) 0 0)) (2 * i + 1) (slot (i + 1) 0 (get_or ws i 0) side)) (i + 1)
    unfolding die_slots
    die_more lw b l =
        subst (λ (k : ℕ). DiePut side n ws ss (set (set r (2 * i) (slot 0 k 0 0)) (2 * i + 1) (slot k 0 (get_or ws i 0) side)) k) (next i)
        (record {
          rest =
              h.rest
              ∙ ap (λ (t : List ℕ). sets r (2 * i) (die_slots side (suc i) t)) (drop-cons (take n ws) i 0 (let e = length-take n ws in omega arith))
              ∙ ap (λ (w : ℕ). sets r (2 * i) (slot 0 (suc i) 0 0 ∷ slot (suc i) 0 w side ∷ die_slots side (suc (suc i)) (drop (suc i) (take n ws)))) (get_or-take n ws i 0 l)
              ∙ two_more r (2 * i) (slot 0 (suc i) 0 0) (slot (suc i) 0 (get_or ws i 0) side) (die_slots side (suc (suc i)) (drop (suc i) (take n ws))) (2 * i + 1) (2 * suc i) (omega arith) (omega arith);
        })

    pub die_all : n ≤ i → r ≡ sets ss 0 (die_slots side 1 (take n ws))
    unfolding die_slots
    die_all l = sym (h.rest ∙ ap (λ (t : List ℕ). sets r (2 * i) (die_slots side (suc i) t)) (drop_of_length-le (take n ws) {i = i} (let e = length-take n ws in omega arith)))

-- ---- the pairs' slots

-- the first p pairs copied to the place `at`
pub copied : (ss ps : List Slot) (at p : ℕ) → p ≤ length ps → at + p ≤ length ss → put_mid at (at + p - at) ss (take p ps) ≡ sets ss at (take p ps)
copied ss ps at p l m =
    let e = length-take p ps in
    sym (sets-eq (take p ps) ss at (omega arith) ∙ append_assoc (take at ss) (take p ps) (drop (at + length (take p ps)) ss) ∙ ap (λ (t : List Slot). take at ss ++ (take p ps ++ t)) (ap (λ (k : ℕ). drop k ss) (let z : at + length (take p ps) ≡ at + (at + p - at) = omega arith in z) ∙ sym (drop-drop (at + p - at) at ss)))

-- ---- the slots of one net's pins

pub record PinsPut (base hi from c at : ℕ) (ps : List AxisPin) (ss r : List Slot) (i : ℕ) : Type 0 where
  pub rest : sets ss at (pin_slots base hi (suc hi) (take c (drop from ps))) ≡ sets r (at + 2 * i) (pin_slots base hi (suc hi) (drop i (take c (drop from ps))))

module _ (base hi from c at : ℕ) (ps : List AxisPin) (ss : List Slot) where
  pub pins_start : PinsPut base hi from c at ps ss ss 0
  pins_start = record { rest = ap (λ (k : ℕ). sets ss k (pin_slots base hi (suc hi) (take c (drop from ps)))) (omega arith) }

  module _ (r : List Slot) (i : ℕ) (h : PinsPut base hi from c at ps ss r i) where
    pins_put : length ps ≡ 128 → from + c ≤ 128 → i < c → PinsPut base hi from c at ps ss (set (set r (at + 2 * i) (slot (get_or ps (from + i) no_pin).node hi (get_or ps (from + i) no_pin).up base)) (at + 2 * i + 1) (slot (hi + 1) (get_or ps (from + i) no_pin).node base (get_or ps (from + i) no_pin).up)) (i + 1)
    unfolding pin_slots
    pins_put lp b l =
        subst (λ (k : ℕ). PinsPut base hi from c at ps ss (set (set r (at + 2 * i) (slot q.node hi q.up base)) (at + 2 * i + 1) (slot (hi + 1) q.node base q.up)) k) (next i)
        (subst (λ (lo : ℕ). PinsPut base hi from c at ps ss (set (set r (at + 2 * i) (slot q.node hi q.up base)) (at + 2 * i + 1) (slot lo q.node base q.up)) (suc i)) (next hi)
        (record {
          rest =
              h.rest
              ∙ ap (λ (t : List AxisPin). sets r (at + 2 * i) (pin_slots base hi (suc hi) t)) (drop-cons (take c (drop from ps)) i no_pin (let e = length-take c (drop from ps) in let d = length-drop from ps in omega arith))
              ∙ ap (λ (u : AxisPin). sets r (at + 2 * i) (slot u.node hi u.up base ∷ slot (suc hi) u.node base u.up ∷ pin_slots base hi (suc hi) (drop (suc i) (take c (drop from ps))))) (pin_of_law ps from c i l)
              ∙ two_more r (at + 2 * i) (slot q.node hi q.up base) (slot (suc hi) q.node base q.up) (pin_slots base hi (suc hi) (drop (suc i) (take c (drop from ps)))) (at + 2 * i + 1) (at + 2 * suc i) (omega arith) (omega arith);
        }))
      where
        q : AxisPin
        q = get_or ps (from + i) no_pin

    pub pins_put_by : (u v : Slot) → u ≡ slot (get_or ps (from + i) no_pin).node hi (get_or ps (from + i) no_pin).up base → v ≡ slot (hi + 1) (get_or ps (from + i) no_pin).node base (get_or ps (from + i) no_pin).up → length ps ≡ 128 → from + c ≤ 128 → i < c → PinsPut base hi from c at ps ss (set (set r (at + 2 * i) u) (at + 2 * i + 1) v) (i + 1)
    pins_put_by u v eu ev lp b l = rw (eu, ev) (pins_put lp b l)

    pins_all : c ≤ i → r ≡ sets ss at (pin_slots base hi (suc hi) (take c (drop from ps)))
    unfolding pin_slots
    pins_all l = sym (h.rest ∙ ap (λ (t : List AxisPin). sets r (at + 2 * i) (pin_slots base hi (suc hi) t)) (drop_of_length-le (take c (drop from ps)) {i = i} (let e = length-take c (drop from ps) in omega arith)))

-- ---- the slots of all nets' pins

pub record NetsPut (base h t at : ℕ) (ts : List AxisNet) (ps : List AxisPin) (ss r : List Slot) (from j : ℕ) : Type 0 where
  pub place : from ≡ pins_before j ts
  pub rest : sets ss at (net_slots base h (nets_of (take t ts) ps)) ≡ sets r (at + 2 * from) (net_slots base (h + 2 * j) (nets_of (drop j (take t ts)) (drop from ps)))

module _ (base h t at : ℕ) (ts : List AxisNet) (ps : List AxisPin) (ss : List Slot) where
  pub nets_start : NetsPut base h t at ts ps ss ss 0 0
  unfolding pins_before
  nets_start = record { place = refl; rest = ap (λ (k : ℕ). sets ss k (net_slots base h (nets_of (take t ts) ps))) (omega arith) ∙ ap (λ (k : ℕ). sets ss (at + 2 * 0) (net_slots base k (nets_of (take t ts) ps))) (omega arith) }

  module _ (r : List Slot) (from j : ℕ) (p : NetsPut base h t at ts ps ss r from j) where
    module _ (room : pins_before t ts ≤ 128) (l : j < t) where
      -- the pins of net j are in the array
      pub net_few : from + (get_or ts j no_net).pins ≤ 128
      net_few = let a = p.place in let b = pins_within j t ts l in omega arith

      pub net_fits : Fits w64 (from + (get_or ts j no_net).pins)
      net_fits = let a = net_few in omega arith

      pub net_twice : Fits w64 (2 * from)
      net_twice = let a = net_few in omega arith

      pub net_next : at + 2 * pins_before t ts ≤ 456 → Fits w64 (at + 2 * from)
      net_next o = let a = net_few in let b = p.place in let c = pins_within j t ts l in omega arith

      pub net_room_law : at + 2 * pins_before t ts ≤ 456 → at + 2 * from + 2 * (get_or ts j no_net).pins ≤ 456
      net_room_law o = let a = p.place in let b = pins_within j t ts l in omega arith

      net_put : length ts ≡ 32 → length ps ≡ 128 → t ≤ 32 → (s : List Slot) → s ≡ sets r (at + 2 * from) (pin_slots base (h + 2 * j) (suc (h + 2 * j)) (take (get_or ts j no_net).pins (drop from ps))) → NetsPut base h t at ts ps ss s (from + (get_or ts j no_net).pins) (j + 1)
      unfolding nets_of net_slots
      net_put lt lp b s e =
          record {
            place = let a = p.place in let d = pins_next j ts in (let z : from + (get_or ts j no_net).pins ≡ pins_before (suc j) ts = omega arith in z) ∙ ap (λ (k : ℕ). pins_before k ts) (omega arith);
            rest =
                p.rest
                ∙ ap (λ (u : List AxisNet). sets r (at + 2 * from) (net_slots base (h + 2 * j) (nets_of u (drop from ps)))) (drop-cons (take t ts) j no_net (let e = length-take t ts in omega arith))
                ∙ ap (λ (k : AxisNet). sets r (at + 2 * from) (pin_slots base (h + 2 * j) (suc (h + 2 * j)) (take k.pins (drop from ps)) ++ net_slots base (suc (suc (h + 2 * j))) (nets_of (drop (suc j) (take t ts)) (drop k.pins (drop from ps))))) (get_or-take t ts j no_net l)
                ∙ sets_append (pin_slots base (h + 2 * j) (suc (h + 2 * j)) (take c (drop from ps))) (net_slots base (suc (suc (h + 2 * j))) (nets_of (drop (suc j) (take t ts)) (drop c (drop from ps)))) r (at + 2 * from)
                ∙ ap (λ (u : List Slot). sets u (at + 2 * from + length (pin_slots base (h + 2 * j) (suc (h + 2 * j)) (take c (drop from ps)))) (net_slots base (suc (suc (h + 2 * j))) (nets_of (drop (suc j) (take t ts)) (drop c (drop from ps))))) (sym e)
                ∙ ap (λ (k : ℕ). sets s k (net_slots base (suc (suc (h + 2 * j))) (nets_of (drop (suc j) (take t ts)) (drop c (drop from ps))))) (let a = length_pins base (h + 2 * j) (suc (h + 2 * j)) (take c (drop from ps)) in let d = length-take c (drop from ps) in let f = length-drop from ps in let g = net_few in let z : at + 2 * from + length (pin_slots base (h + 2 * j) (suc (h + 2 * j)) (take c (drop from ps))) ≡ at + 2 * (from + c) = omega arith in z)
                ∙ ap (λ (u : List AxisPin). sets s (at + 2 * (from + c)) (net_slots base (suc (suc (h + 2 * j))) (nets_of (drop (suc j) (take t ts)) u))) (drop-drop c from ps)
                ∙ ap (λ (k : ℕ). sets s (at + 2 * (from + c)) (net_slots base k (nets_of (drop (suc j) (take t ts)) (drop (from + c) ps)))) (let z : suc (suc (h + 2 * j)) ≡ h + 2 * (j + 1) = omega arith in z)
                ∙ ap (λ (k : ℕ). sets s (at + 2 * (from + c)) (net_slots base (h + 2 * (j + 1)) (nets_of (drop k (take t ts)) (drop (from + c) ps)))) (next j);
          }
        where
          c : ℕ
          c = (get_or ts j no_net).pins

      pub net_put_by : length ts ≡ 32 → length ps ≡ 128 → t ≤ 32 → (s : List Slot) (i : ℕ) → PinsPut base (h + 2 * j) from (get_or ts j no_net).pins (at + 2 * from) ps r s i → (get_or ts j no_net).pins ≤ i → NetsPut base h t at ts ps ss s (from + (get_or ts j no_net).pins) (j + 1)
      net_put_by lt lp u s i q m = net_put lt lp u s (pins_all base (h + 2 * j) from (get_or ts j no_net).pins (at + 2 * from) ps r s i q m)

    pub nets_all : t ≤ j → r ≡ sets ss at (net_slots base h (nets_of (take t ts) ps))
    unfolding nets_of net_slots
    nets_all l = sym (p.rest ∙ ap (λ (u : List AxisNet). sets r (at + 2 * from) (net_slots base (h + 2 * j) (nets_of u (drop from ps)))) (drop_of_length-le (take t ts) {i = j} (let e = length-take t ts in omega arith)))

-- ---- the end slots

pub record EndsPut (h t at : ℕ) (ss r : List Slot) (j : ℕ) : Type 0 where
  pub rest : sets ss at (ends_of h t) ≡ sets r (at + 2 * j) (ends_of (h + 2 * j) (t - j))

module _ (h t at : ℕ) (ss : List Slot) where
  module _ (r : List Slot) (j : ℕ) (p : EndsPut h t at ss r j) where
    pub ends_put : j < t → EndsPut h t at ss (set (set r (at + 2 * j) (slot (h + 2 * j) 0 0 far)) (at + 2 * j + 1) (slot 0 (h + 2 * j + 1) 0 far)) (j + 1)
    unfolding ends_of
    ends_put l =
        subst (λ (o : ℕ). EndsPut h t at ss (set (set r (at + 2 * j) (slot (h + 2 * j) 0 0 far)) (at + 2 * j + 1) (slot 0 o 0 far)) (j + 1)) (let z : suc (h + 2 * j) ≡ h + 2 * j + 1 = omega arith in z)
        (record {
          rest =
              p.rest
              ∙ ap (λ (k : ℕ). sets r (at + 2 * j) (ends_of (h + 2 * j) k)) (let z : t - j ≡ suc (t - (j + 1)) = omega arith in z)
              ∙ two_more r (at + 2 * j) (slot (h + 2 * j) 0 0 far) (slot 0 (suc (h + 2 * j)) 0 far) (ends_of (suc (suc (h + 2 * j))) (t - (j + 1))) (at + 2 * j + 1) (at + 2 * (j + 1)) (omega arith) (omega arith)
              ∙ ap (λ (k : ℕ). sets (set (set r (at + 2 * j) (slot (h + 2 * j) 0 0 far)) (at + 2 * j + 1) (slot 0 (suc (h + 2 * j)) 0 far)) (at + 2 * (j + 1)) (ends_of k (t - (j + 1)))) (let z : suc (suc (h + 2 * j)) ≡ h + 2 * (j + 1) = omega arith in z);
        })

    pub ends_all : t ≤ j → r ≡ sets ss at (ends_of h t)
    unfolding ends_of
    ends_all l = sym (p.rest ∙ ap (λ (k : ℕ). sets r (at + 2 * j) (ends_of (h + 2 * j) k)) (let z : t - j ≡ 0 = omega arith in z))

-- ---- how many pins, and the nets' ends and weights

module _ (ts : List AxisNet) where
  pub count_none : 0 ≡ pins_before 0 ts
  unfolding pins_before
  count_none = refl

  module _ (c j : ℕ) (e : c ≡ pins_before j ts) where
    pub count_fits : (t : ℕ) → j < t → pins_before t ts ≤ 128 → Fits w64 (c + (get_or ts j no_net).pins)
    count_fits t l b = let a = pins_within j t ts l in omega arith

    pub count_more : c + (get_or ts j no_net).pins ≡ pins_before (j + 1) ts
    count_more = (let d = pins_next j ts in let z : c + (get_or ts j no_net).pins ≡ pins_before (suc j) ts = omega arith in z) ∙ ap (λ (k : ℕ). pins_before k ts) (omega arith)

blank_at : (n k : ℕ) → get_or (replicate n no_span) k no_span ≡ no_span
blank_at zero k = refl
blank_at (suc n) zero = refl
blank_at (suc n) (suc k) = blank_at n k

module _ (n : ℕ) (ts : List AxisNet) where
  pub spans_none : SpansTo n ts 0 (replicate 32 no_span)
  spans_none = record { at = λ j l. absurd (omega arith); rest = λ j l. blank_at 32 j }
