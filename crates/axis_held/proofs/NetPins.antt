-- Where the pins of each net lie in the list of all pins.
use mathlib.Core.Path.{◌≡◌, refl, ap, ◌∙◌}
use mathlib.Core.List.{List, [], ◌∷◌}
use Prim.Native.Nat.{ℕ, zero, suc, ◌+◌, ◌≤◌, ◌<◌}
use native.Mathlib.Nat.{le_of_suc-le-suc}
use native.Mathlib.Omega.{arith}
use lib.ListN.{length, get_or, take, drop, length-take, length-drop}
use lib.Seq.{drop-drop, get_or-take, get_or-drop}
use Rattle.axis_bounds.specs.declared.AxisPin.{AxisPin}
use Rattle.axis_bounds.specs.declared.AxisNet.{AxisNet}
use Rattle.axis_bounds.specs.Axis.{NetOn, no_net, no_pin, bare_net, nets_of, pin_count}
use Rattle.axis_bounds.specs.Held.{pins_before}

-- the pins before a net, and its own
pub pins_next : (j : ℕ) (ts : List AxisNet) → pins_before (suc j) ts ≡ pins_before j ts + (get_or ts j no_net).pins
unfolding pins_before
pins_next zero [] = refl
pins_next (suc j) [] = refl
pins_next zero (t ∷ ts) = omega arith
pins_next (suc j) (t ∷ ts) = let h = pins_next j ts in omega arith

pub pins_grow : (j t : ℕ) (ts : List AxisNet) → j ≤ t → pins_before j ts ≤ pins_before t ts
unfolding pins_before
pins_grow zero t ts l = omega arith
pins_grow (suc j) zero ts l = absurd (omega arith)
pins_grow (suc j) (suc t) [] l = omega arith
pins_grow (suc j) (suc t) (k ∷ ts) l = let h = pins_grow j t ts (le_of_suc-le-suc l) in omega arith

-- a net below t, and its pins, lie within the pins of t nets
pub pins_within : (j t : ℕ) (ts : List AxisNet) → j < t → pins_before j ts + (get_or ts j no_net).pins ≤ pins_before t ts
pins_within j t ts l = let p = pins_next j ts in let q = pins_grow (suc j) t ts l in omega arith

pub pins_take : (j t : ℕ) (ts : List AxisNet) → j ≤ t → pins_before j (take t ts) ≡ pins_before j ts
unfolding pins_before
pins_take zero t ts l = refl
pins_take (suc j) zero ts l = absurd (omega arith)
pins_take (suc j) (suc t) [] l = refl
pins_take (suc j) (suc t) (k ∷ ts) l = ap (λ (r : ℕ). k.pins + r) (pins_take j t ts (le_of_suc-le-suc l))

pub length_nets : (ts : List AxisNet) (ps : List AxisPin) → length (nets_of ts ps) ≡ length ts
unfolding nets_of
length_nets [] ps = refl
length_nets (t ∷ ts) ps = ap suc (length_nets ts (drop t.pins ps))

-- the pins of all nets, where there are as many as they ask for
pub count_all : (ts : List AxisNet) (ps : List AxisPin) → pins_before (length ts) ts ≤ length ps → pin_count (nets_of ts ps) ≡ pins_before (length ts) ts
unfolding nets_of pin_count pins_before
count_all [] ps l = refl
count_all (t ∷ ts) ps l = let p = length-take t.pins ps in let q = length-drop t.pins ps in let h = count_all ts (drop t.pins ps) (omega arith) in omega arith

pub net_at_law : (ts : List AxisNet) (ps : List AxisPin) (j : ℕ) → j < length ts → get_or (nets_of ts ps) j bare_net ≡ record { weight = (get_or ts j no_net).weight; pins = take (get_or ts j no_net).pins (drop (pins_before j ts) ps) }
unfolding nets_of pins_before
net_at_law [] ps j l = absurd (omega arith)
net_at_law (t ∷ ts) ps zero l = refl
net_at_law (t ∷ ts) ps (suc j) l = net_at_law ts (drop t.pins ps) j (le_of_suc-le-suc l) ∙ ap (λ (r : List AxisPin). record { weight = (get_or ts j no_net).weight; pins = take (get_or ts j no_net).pins r }) (drop-drop (pins_before j ts) t.pins ps)

-- pin i of a net with c pins after the first s
pub pin_of_law : (ps : List AxisPin) (s c i : ℕ) → i < c → get_or (take c (drop s ps)) i no_pin ≡ get_or ps (s + i) no_pin
pin_of_law ps s c i l = get_or-take c (drop s ps) i no_pin l ∙ get_or-drop s ps i no_pin

module _ (ts : List AxisNet) (ps : List AxisPin) (t : ℕ) (b : t ≤ length ts) (j : ℕ) (l : j < t) where
  -- net j of the first t
  pub net_held : get_or (nets_of (take t ts) ps) j bare_net ≡ record { weight = (get_or ts j no_net).weight; pins = take (get_or ts j no_net).pins (drop (pins_before j ts) ps) }
  net_held =
      net_at_law (take t ts) ps j (let e = length-take t ts in omega arith)
      ∙ ap (λ (k : AxisNet). record { weight = k.weight; pins = take k.pins (drop (pins_before j (take t ts)) ps) }) (get_or-take t ts j no_net l)
      ∙ ap (λ (k : ℕ). record { weight = (get_or ts j no_net).weight; pins = take (get_or ts j no_net).pins (drop k ps) }) (pins_take j t ts (omega arith))

  pub weight_held : (get_or (nets_of (take t ts) ps) j bare_net).weight ≡ (get_or ts j no_net).weight
  weight_held = ap (λ (k : NetOn). k.weight) net_held

  pub pins_held : (get_or (nets_of (take t ts) ps) j bare_net).pins ≡ take (get_or ts j no_net).pins (drop (pins_before j ts) ps)
  pins_held = ap (λ (k : NetOn). k.pins) net_held

  module _ (room : pins_before t ts ≤ length ps) where
    -- a net has as many pins as it says
    pub count_held : length (get_or (nets_of (take t ts) ps) j bare_net).pins ≡ (get_or ts j no_net).pins
    count_held = rw pins_held (let p = length-take (get_or ts j no_net).pins (drop (pins_before j ts) ps) in let q = length-drop (pins_before j ts) ps in let r = pins_within j t ts l in omega arith)

    pub pin_held : (i : ℕ) → i < (get_or ts j no_net).pins → get_or (get_or (nets_of (take t ts) ps) j bare_net).pins i no_pin ≡ get_or ps (pins_before j ts + i) no_pin
    pin_held i m = rw pins_held (pin_of_law ps (pins_before j ts) (get_or ts j no_net).pins i m)
