-- The limits of a graph and of its numbers. The arrays of the code have these lengths.
use Rattle.std.specs.Prelude.{ℕ}

-- nodes that a graph has room for
abbrev pub node_room : ℕ
node_room = 80

-- slots that a graph has room for
abbrev pub slot_room : ℕ
slot_room = 456

-- nets that an axis has room for
abbrev pub net_room : ℕ
net_room = 32

-- the most that a side of a bound adds to a value
abbrev pub side_most : ℕ
side_most = 32768

-- the most that two values under all bounds differ
abbrev pub farthest : ℕ
farthest = 250000

-- the most that a value is between two growths
abbrev pub low_most : ℕ
low_most = 500000

-- the most that a value is at any time
abbrev pub value_most : ℕ
value_most = 1000000

-- the most that a net weighs
abbrev pub weight_most : ℕ
weight_most = 1000

-- the most that a slot carries
abbrev pub amount_most : ℕ
amount_most = 1000000

-- a slack above all others: no slot leaves
abbrev pub no_slack : ℕ
no_slack = 2000000
