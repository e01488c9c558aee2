-- What two lent arrays mean, whatever they hold: bounds between the 9 nodes, and nets with their entries, as an axis. Node 0 is the die corner, nodes 1..8
-- the macros.
use Rattle.std.specs.Prelude.{ℕ, zero, suc, ◌+◌, ◌/◌, ◌%◌, ◌≤◌, ◌<◌, List, [], ◌∷◌, cond, eqb, get_or}
use Rattle.axis_bounds.specs.declared.Slot.{Slot}
use Rattle.axis_bounds.specs.declared.AxisPin.{AxisPin}
use Rattle.axis_bounds.specs.Axis.{Axis, NetOn, value_at}
use Rattle.axis_bounds.specs.Listed.{slot}

-- ---- reading

-- bounds are held higher by this
abbrev pub raised : ℕ
raised = 16777216

-- the bound at place c, from node c / 9 to node c % 9
unfoldable pub bound_at : List ℕ → ℕ → ℕ
bound_at arcs c = get_or arcs (c % 128) 0 % 33554432

-- how many entries there are; of an entry its node, its greatest and its least pin place, its net; the weight of a net
unfoldable pub entry_count : List ℕ → ℕ
entry_count tab = get_or tab 898 0 % 129

unfoldable pub node_at : List ℕ → ℕ → ℕ
node_at tab e = get_or tab (e % 128) 0 % 9

unfoldable pub most_at : List ℕ → ℕ → ℕ
most_at tab e = get_or tab (128 + e % 128) 0 % 65536

unfoldable pub least_at : List ℕ → ℕ → ℕ
least_at tab e = get_or tab (256 + e % 128) 0 % 65536

unfoldable pub net_at : List ℕ → ℕ → ℕ
net_at tab e = get_or tab (384 + e % 128) 0 % 32

unfoldable pub weight_at : List ℕ → ℕ → ℕ
weight_at tab j = get_or tab (576 + j % 64) 0 % 65536

-- ---- meaning

-- the nodes of the bound at place c
abbrev pub from_node : ℕ → ℕ
from_node c = c / 9

abbrev pub to_node : ℕ → ℕ
to_node c = c % 9

-- value(c / 9) + bound ≤ value(c % 9) + 2^24
abbrev pub arc_slot : List ℕ → ℕ → Slot
arc_slot arcs c = slot (from_node c) (to_node c) (bound_at arcs c) raised

-- the bounds at k places from c on
unfoldable pub arc_slots : List ℕ → ℕ → ℕ → List Slot
arc_slots arcs c zero = []
arc_slots arcs c (suc k) = arc_slot arcs c ∷ arc_slots arcs (suc c) k

abbrev pub pin_at : ℕ → ℕ → AxisPin
pin_at n u = record { node = n; up = u }

-- the pins of net j: two for each of the first k entries that is on it
unfoldable pub entry_pins : List ℕ → ℕ → ℕ → List AxisPin
entry_pins tab j zero = []
entry_pins tab j (suc k) =
    cond (eqb (net_at tab k) j) (pin_at (node_at tab k) (most_at tab k) ∷ pin_at (node_at tab k) (least_at tab k) ∷ entry_pins tab j k) (entry_pins tab j k)

abbrev pub net_on : List ℕ → ℕ → NetOn
net_on tab j = record { weight = weight_at tab j; pins = entry_pins tab j (entry_count tab) }

-- k nets from net j on
unfoldable pub nets_from : List ℕ → ℕ → ℕ → List NetOn
nets_from tab j zero = []
nets_from tab j (suc k) = net_on tab j ∷ nets_from tab (suc j) k

-- 8 macros of no size on a die of 8192 tracks, all bounds, all nets: the die and the sizes of a chip are bounds here
abbrev pub axis_on : List ℕ → List ℕ → Axis
axis_on tab arcs = record { side = 8192; sizes = 0 ∷ 0 ∷ 0 ∷ 0 ∷ 0 ∷ 0 ∷ 0 ∷ 0 ∷ []; pairs = arc_slots arcs 0 81; base = 0; nets = nets_from tab 0 32 }

-- the coordinates z keep the bounds at the first k places
pub record KeepsTo (arcs z : List ℕ) (k : ℕ) : Type 0 where
  pub at : (c : ℕ) → c < k → value_at z (from_node c) + bound_at arcs c ≤ value_at z (to_node c) + raised
