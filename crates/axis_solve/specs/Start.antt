-- The values that the whole graph starts from. Node 0 starts at `farthest`; a
-- macro lies at most 8192 above it, and a pin's place is held at most 16384 above its node.
use Rattle.std.specs.Prelude.{ℕ, suc, ◌+◌, ◌≤◌, ◌<◌, ◌≡◌, List, get_or, length}
use Rattle.axis_bounds.specs.declared.AxisPin.{AxisPin}
use Rattle.axis_bounds.specs.declared.AxisNet.{AxisNet}
use Rattle.axis_bounds.specs.Axis.{no_pin}
use Rattle.axis_bounds.specs.Listed.{hi_node, lo_node}
use Rattle.axis_bounds.specs.Held.{pins_before}
use Rattle.axis_graph.specs.Limits.{node_room, farthest, low_most}
use Rattle.axis_graph.specs.Graph.{at}

-- the highest place of a pin at the start
abbrev pub topmost : ℕ
topmost = 274576

-- the place of pin i, held higher by the base
abbrev pub pin_at : List ℕ → List AxisPin → ℕ → ℕ
pin_at x ps i = at x (get_or ps i no_pin).node + (get_or ps i no_pin).up

-- the pins between two places are where pins are at the start
pub record PinsIn (x : List ℕ) (ps : List AxisPin) (from to : ℕ) : Type 0 where
  pub node : (i : ℕ) → from ≤ i → i < to → (get_or ps i no_pin).node < node_room
  pub low : (i : ℕ) → from ≤ i → i < to → farthest ≤ pin_at x ps i
  pub high : (i : ℕ) → from ≤ i → i < to → pin_at x ps i ≤ topmost

-- the pins of the first t nets
pub record NetsIn (x : List ℕ) (ts : List AxisNet) (ps : List AxisPin) (t : ℕ) : Type 0 where
  pub at : (j : ℕ) → j < t → PinsIn x ps (pins_before j ts) (pins_before (suc j) ts)

-- the pins between two places lie between lo and hi
pub record Around (x : List ℕ) (ps : List AxisPin) (from to lo hi : ℕ) : Type 0 where
  pub bottom : farthest ≤ lo
  pub top : hi ≤ topmost
  pub middle : (lo ≤ topmost) × (farthest ≤ hi)
  pub low : (i : ℕ) → from ≤ i → i < to → lo ≤ pin_at x ps i
  pub high : (i : ℕ) → from ≤ i → i < to → pin_at x ps i ≤ hi

-- values as they are between two growths
pub record Resting (x : List ℕ) : Type 0 where
  pub most : (k : ℕ) → at x k ≤ low_most

-- y: the values x of the macros, and of the first k nets' ends, each less the base
pub record Started (n base : ℕ) (ts : List AxisNet) (ps : List AxisPin) (x y : List ℕ) (k : ℕ) : Type 0 where
  pub long : length y ≡ node_room
  pub same : (i : ℕ) → i ≤ n → at y i ≡ at x i
  pub most : (i : ℕ) → at y i ≤ low_most
  pub net : (j : ℕ) → j < k → Around x ps (pins_before j ts) (pins_before (suc j) ts) (at y (lo_node n j) + base) (at y (hi_node n j) + base)
