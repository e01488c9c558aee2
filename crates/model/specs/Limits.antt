-- The limits of document 01, "The chip file" and "The search and its record", and of document 02, Card 2, each with the thing that it limits.
use Rattle.std.specs.Prelude.{ℕ, Bool, ◌&&◌, ℤ, pos, neg_ℤ, ◌+ℤ◌}
use Rattle.std.specs.Int.Signed.{le_z}

-- ---- how many

-- how many bytes a text has at most
abbrev pub most_bytes : ℕ
most_bytes = 16384

-- how many fixes a chip has at most
abbrev pub most_fixes : ℕ
most_fixes = 8

-- how many macros a chip or a record has at most
abbrev pub most_macs : ℕ
most_macs = 8

-- how many nets a chip has at most
abbrev pub most_nets : ℕ
most_nets = 32

-- how many pins a chip has at most, in all nets
abbrev pub most_pins : ℕ
most_pins = 128

-- ---- from where to where

-- a range: its least and its greatest number
pub record Range : Type 0 where
  pub least : ℤ
  pub most : ℤ

-- z is in the range
abbrev pub is_within : Range → ℤ → Bool
is_within r z = le_z r.least z && le_z z r.most

-- the sides of a die
abbrev pub die_side : Range
die_side = record { least = pos 1; most = pos 1024 }

-- the corner of a fix
abbrev pub fix_corner : Range
fix_corner = record { least = pos 0; most = pos 1023 }

-- the sides of a fix
abbrev pub fix_side : Range
fix_side = record { least = pos 1; most = pos 1024 }

-- the sides of a macro
abbrev pub mac_side : Range
mac_side = record { least = pos 1; most = pos 1024 }

-- the weight of a net
abbrev pub net_weight : Range
net_weight = record { least = pos 1; most = pos 1000 }

-- m of a pin: its macro, or 0 for a pad
abbrev pub pin_macro : Range
pin_macro = record { least = pos 0; most = pos most_macs }

-- how far x and y of a pin go below 0 and above
abbrev pub most_place : ℕ
most_place = 4096

-- x and y of a pin
abbrev pub pin_place : Range
pin_place = record { least = neg_ℤ (pos most_place); most = pos most_place }

-- wl of a record: its wirelength
abbrev pub record_length : Range
record_length = record { least = pos 0; most = pos 589824000 }

-- m of a record: the number of a macro
abbrev pub placed_macro : Range
placed_macro = record { least = pos 1; most = pos most_macs }

-- x and y of a record: a macro's corner
abbrev pub placed_corner : Range
placed_corner = record { least = pos 0; most = pos 1024 }

-- n of a box line: the number of a net (document 02, Card 2)
abbrev pub boxed_net : Range
boxed_net = record { least = pos 1; most = pos most_nets }

-- l, r, b and t of a box line: where a pin of a net can lie, from 0 or from a macro's corner
abbrev pub box_end : Range
box_end = record { least = neg_ℤ (pos most_place); most = placed_corner.most +ℤ pos most_place }
