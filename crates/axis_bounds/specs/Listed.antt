-- The slots of an axis in document 01's order: two for each macro, one for each pair, two for each pin. Nodes: 0 the die corner, then the macros,
-- then hi and lo of each net in turn.
use Rattle.std.specs.Prelude.{ℕ, suc, ◌+◌, ◌*◌, List, [], ◌∷◌, ◌++◌, length, get_or}
use Rattle.axis_bounds.specs.declared.Slot.{Slot}
use Rattle.axis_bounds.specs.declared.AxisPin.{AxisPin}
use Rattle.axis_bounds.specs.Axis.{Axis, NetOn, no_slot, bare_net}

-- the bound value(t) + p ≤ value(h) + m
abbrev pub slot : ℕ → ℕ → ℕ → ℕ → Slot
slot t h p m = record { tail = t; head = h; plus = p; minus = m }

-- for macro i of size w and those after it: x_i - 0 ≥ 0 and 0 - x_i ≥ w - side
unfoldable pub die_slots : ℕ → ℕ → List ℕ → List Slot
die_slots side i [] = []
die_slots side i (w ∷ ws) = slot 0 i 0 0 ∷ slot i 0 w side ∷ die_slots side (suc i) ws

-- for each pin at place up - base of its node: hi - node ≥ up - base and node - lo ≥ base - up
unfoldable pub pin_slots : ℕ → ℕ → ℕ → List AxisPin → List Slot
pin_slots base hi lo [] = []
pin_slots base hi lo (p ∷ ps) = slot p.node hi p.up base ∷ slot lo p.node base p.up ∷ pin_slots base hi lo ps

-- the pins' slots of the nets, the first of which has node h as its hi and the next one as its lo
unfoldable pub net_slots : ℕ → ℕ → List NetOn → List Slot
net_slots base h [] = []
net_slots base h (t ∷ ts) = pin_slots base h (suc h) t.pins ++ net_slots base (suc (suc h)) ts

-- hi and lo of net j, from 0 on, of an axis with n macros
abbrev pub hi_node : ℕ → ℕ → ℕ
hi_node n j = suc n + 2 * j

abbrev pub lo_node : ℕ → ℕ → ℕ
lo_node n j = suc (hi_node n j)

-- 1 for the die corner, one for each macro, two for each net
abbrev pub node_count : Axis → ℕ
node_count a = suc (length a.sizes) + 2 * length a.nets

unfoldable pub listed : Axis → List Slot
listed a = die_slots a.side 1 a.sizes ++ (a.pairs ++ net_slots a.base (suc (length a.sizes)) a.nets)

-- ---- slots as functions of their number

abbrev pub slot_at : List Slot → ℕ → Slot
slot_at ss s = get_or ss s no_slot

abbrev pub tails : List Slot → ℕ → ℕ
tails ss s = (slot_at ss s).tail

abbrev pub heads : List Slot → ℕ → ℕ
heads ss s = (slot_at ss s).head

abbrev pub pluses : List Slot → ℕ → ℕ
pluses ss s = (slot_at ss s).plus

abbrev pub minuses : List Slot → ℕ → ℕ
minuses ss s = (slot_at ss s).minus

abbrev pub amount : List ℕ → ℕ → ℕ
amount f s = get_or f s 0

-- the weight of net j, and the nodes of its ends
abbrev pub weight_of : Axis → ℕ → ℕ
weight_of a j = (get_or a.nets j bare_net).weight
