-- One axis of a fit, over lists: what its values keep, and how long its nets are on it.
use Rattle.std.specs.Prelude.{ℕ, zero, suc, ◌+◌, ◌*◌, ◌≤◌, ◌<◌, ◌≡◌, List, [], ◌∷◌, map, length, get_or, take, drop}
use Rattle.num_laws.specs.Spread.{spread}
use Rattle.axis_bounds.specs.declared.Slot.{Slot}
use Rattle.axis_bounds.specs.declared.AxisPin.{AxisPin}
use Rattle.axis_bounds.specs.declared.AxisNet.{AxisNet}
use Rattle.axis_bounds.specs.declared.Axis.{Axis as HeldAxis}

-- a net with its pins
pub record NetOn : Type 0 where
  pub weight : ℕ
  pub pins : List AxisPin

pub record Axis : Type 0 where
  pub side : ℕ
  pub sizes : List ℕ
  pub pairs : List Slot
  pub base : ℕ
  pub nets : List NetOn

-- the slot that asks nothing
abbrev pub no_slot : Slot
no_slot = record { tail = 0; head = 0; plus = 0; minus = 0 }

abbrev pub no_pin : AxisPin
no_pin = record { node = 0; up = 0 }

abbrev pub no_net : AxisNet
no_net = record { weight = 0; pins = 0 }

-- each net takes its pins from the front of the list
unfoldable pub nets_of : List AxisNet → List AxisPin → List NetOn
nets_of [] ps = []
nets_of (t ∷ ts) ps = record { weight = t.weight; pins = take t.pins ps } ∷ nets_of ts (drop t.pins ps)

-- the axis that a value holds
unfoldable pub axis_of : HeldAxis → Axis
axis_of a =
    record {
      side = a.side;
      sizes = take a.n a.sizes;
      pairs = take a.p a.pairs;
      base = a.base;
      nets = nets_of (take a.t a.nets) a.pins;
    }

-- the value of a node, from the macros' coordinates z: 0 at the die corner
abbrev pub value_at : List ℕ → ℕ → ℕ
value_at z zero = 0
value_at z (suc i) = get_or z i 0

-- the values keep a slot's bound
pub record KeepsSlot (z : List ℕ) (s : Slot) : Type 0 where
  pub le : value_at z s.tail + s.plus ≤ value_at z s.head + s.minus

-- one coordinate for each macro, every macro in the die, every pair's bound kept
pub record Keeps (a : Axis) (z : List ℕ) : Type 0 where
  pub long : length z ≡ length a.sizes
  pub size : (i : ℕ) → i < length a.sizes → get_or z i 0 + get_or a.sizes i 0 ≤ a.side
  pub pair : (j : ℕ) → j < length a.pairs → KeepsSlot z (get_or a.pairs j no_slot)

-- where a pin lies, held higher by the base
abbrev pub place_of : List ℕ → AxisPin → ℕ
place_of z p = value_at z p.node + p.up

abbrev pub places : List ℕ → List AxisPin → List ℕ
places z ps = map (place_of z) ps

unfoldable pub nets_length : List ℕ → List NetOn → ℕ
nets_length z [] = 0
nets_length z (t ∷ ts) = t.weight * spread (places z t.pins) + nets_length z ts

-- the length of all nets on the axis
abbrev pub length_on : Axis → List ℕ → ℕ
length_on a z = nets_length z a.nets

-- ---- the limits that the solver demands

pub record WellFormedPair (n : ℕ) (s : Slot) : Type 0 where
  pub tail : s.tail ≤ n
  pub head : s.head ≤ n
  pub plus : s.plus ≤ 16384
  pub minus : s.minus ≤ 16384

pub record WellFormedPin (n : ℕ) (p : AxisPin) : Type 0 where
  pub node : p.node ≤ n
  pub up : p.up ≤ 16384

pub record WellFormedNet (n : ℕ) (t : NetOn) : Type 0 where
  pub low : 1 ≤ t.weight
  pub high : t.weight ≤ 1000
  pub some : 0 < length t.pins
  pub pin : (i : ℕ) → i < length t.pins → WellFormedPin n (get_or t.pins i no_pin)

unfoldable pub pin_count : List NetOn → ℕ
pin_count [] = 0
pin_count (t ∷ ts) = length t.pins + pin_count ts

abbrev pub bare_net : NetOn
bare_net = record { weight = 0; pins = [] }

pub record WellFormed (a : Axis) : Type 0 where
  pub macs : length a.sizes ≤ 8
  pub pairs : length a.pairs ≤ 120
  pub nets : length a.nets ≤ 32
  pub pins : pin_count a.nets ≤ 128
  pub side : a.side ≤ 8192
  pub base : a.base ≤ 16384
  pub size : (i : ℕ) → i < length a.sizes → get_or a.sizes i 0 ≤ 8192
  pub pair : (j : ℕ) → j < length a.pairs → WellFormedPair (length a.sizes) (get_or a.pairs j no_slot)
  pub net : (j : ℕ) → j < length a.nets → WellFormedNet (length a.sizes) (get_or a.nets j bare_net)
