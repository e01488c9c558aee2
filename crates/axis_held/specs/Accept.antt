-- The limits of an axis, each for the first entries of an array.
use Rattle.std.specs.Prelude.{ℕ, suc, ◌-◌, ◌≤◌, ◌<◌, List, get_or}
use Rattle.axis_bounds.specs.declared.Slot.{Slot}
use Rattle.axis_bounds.specs.declared.AxisPin.{AxisPin}
use Rattle.axis_bounds.specs.declared.AxisNet.{AxisNet}
use Rattle.axis_bounds.specs.declared.Axis.{Axis}
use Rattle.axis_bounds.specs.Axis.{no_slot, no_pin, no_net, WellFormedPair, WellFormedPin}
use Rattle.axis_bounds.specs.Held.{pins_before}

-- the first k pairs, of n macros
pub record PairsTo (n : ℕ) (ss : List Slot) (k : ℕ) : Type 0 where
  pub at : (j : ℕ) → j < k → WellFormedPair n (get_or ss j no_slot)

-- the pins between two places
pub record PinsTo (n : ℕ) (ps : List AxisPin) (from to : ℕ) : Type 0 where
  pub at : (i : ℕ) → from ≤ i → i < to → WellFormedPin n (get_or ps i no_pin)

-- a net's weight, and the number of its pins: one at least, and no more than fit after the first `from`
pub record NetCounts (t : AxisNet) (from : ℕ) : Type 0 where
  pub low : 1 ≤ t.weight
  pub high : t.weight ≤ 1000
  pub some : 1 ≤ t.pins
  pub fit : t.pins ≤ 128 - from

-- net j, and its pins
pub record NetTo (n : ℕ) (ts : List AxisNet) (ps : List AxisPin) (j : ℕ) : Type 0 where
  pub counts : NetCounts (get_or ts j no_net) (pins_before j ts)
  pub pins : PinsTo n ps (pins_before j ts) (pins_before (suc j) ts)

-- the first k nets
pub record NetsTo (n : ℕ) (ts : List AxisNet) (ps : List AxisPin) (k : ℕ) : Type 0 where
  pub at : (j : ℕ) → j < k → NetTo n ts ps j

-- the counts, the side and the base
pub record FrameTo (a : Axis) : Type 0 where
  pub macs : a.n ≤ 8
  pub pairs : a.p ≤ 120
  pub nets : a.t ≤ 32
  pub side : a.side ≤ 8192
  pub base : a.base ≤ 16384
