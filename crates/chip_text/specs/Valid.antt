-- What every accepted chip keeps (document 01, "The chip file": ranges and counts), of its meaning and of a value that holds it.
use Rattle.std.specs.Prelude.{ℕ, zero, suc, ◌+◌, ◌≤◌, ◌<◌, ◌≡◌, true, List, [], ◌∷◌, length, get_or, pos, nat_abs}
use Rattle.model.specs.declared.Fix.{Fix}
use Rattle.model.specs.declared.Mac.{Mac}
use Rattle.model.specs.declared.Net.{Net as HeldNet}
use Rattle.model.specs.declared.Pin.{Pin as HeldPin}
use Rattle.model.specs.declared.Chip.{Chip as HeldChip}
use Rattle.model.specs.Meaning.{Pin, Net, Chip, blank_fix, blank_mac, blank_net, blank_pin, pin_up}
use Rattle.model.specs.Limits.{Range, is_within, die_side, fix_corner, fix_side, mac_side, net_weight, pin_place, most_place, most_fixes, most_macs, most_nets, most_pins}
use Rattle.chip_text.specs.Kind.{pin_count}

-- v is from least to most
pub record Between (least v most : ℕ) : Type 0 where
  pub low : least ≤ v
  pub high : v ≤ most

-- v is in a range that begins at 0 or above
abbrev pub In : Range → ℕ → Type 0
In r v = Between (nat_abs r.least) v (nat_abs r.most)

-- a fix in its ranges
pub record ValidFix (f : Fix) : Type 0 where
  pub x : f.x ≤ nat_abs fix_corner.most
  pub y : f.y ≤ nat_abs fix_corner.most
  pub w : In fix_side f.w
  pub h : In fix_side f.h

-- a macro in its range
pub record ValidMac (m : Mac) : Type 0 where
  pub w : In mac_side m.w
  pub h : In mac_side m.h

-- a pin or a pad of a chip with n macros
pub record ValidPin (n : ℕ) (p : Pin) : Type 0 where
  pub macro : p.m ≤ n
  pub x : is_within pin_place p.x ≡ true
  pub y : is_within pin_place p.y ≡ true

-- the pin that stands for none, past the end of a list
abbrev pub no_pin : Pin
no_pin = record { m = 0; x = pos 0; y = pos 0 }

-- a net of a chip with n macros: its weight in its range, and at least one pin
pub record ValidNet (n : ℕ) (t : Net) : Type 0 where
  pub weight : In net_weight t.weight
  pub some : 0 < length t.pins
  pub pin : (i : ℕ) → i < length t.pins → ValidPin n (get_or t.pins i no_pin)

-- the net that stands for none, past the end of a list
abbrev pub no_net : Net
no_net = record { weight = 0; pins = [] }

-- a chip: its die, its counts, and each of its parts
pub record Valid (c : Chip) : Type 0 where
  pub die_w : In die_side c.die.w
  pub die_h : In die_side c.die.h
  pub fix_count : length c.fixes ≤ most_fixes
  pub mac_count : length c.macs ≤ most_macs
  pub net_count : length c.nets ≤ most_nets
  pub pins : pin_count c.nets ≤ most_pins
  pub fix : (i : ℕ) → i < length c.fixes → ValidFix (get_or c.fixes i blank_fix)
  pub mac : (i : ℕ) → i < length c.macs → ValidMac (get_or c.macs i blank_mac)
  pub net : (j : ℕ) → j < length c.nets → ValidNet (length c.macs) (get_or c.nets j no_net)

-- ---- the same of a chip held as a value

-- how many pins the first j nets have
unfoldable pub pins_before : ℕ → List HeldNet → ℕ
pins_before zero ts = 0
pins_before (suc j) [] = 0
pins_before (suc j) (t ∷ ts) = t.pins + pins_before j ts

-- a net held as a value
pub record HeldValidNet (t : HeldNet) : Type 0 where
  pub weight : In net_weight t.weight
  pub some : 0 < t.pins

-- a pin held as a value, of a chip with n macros
pub record HeldValidPin (n : ℕ) (p : HeldPin) : Type 0 where
  pub macro : p.m ≤ n
  pub x : p.xup ≤ pin_up + most_place
  pub y : p.yup ≤ pin_up + most_place

-- a chip held as a value: its die, its counts, and each of its parts
pub record HeldValid (c : HeldChip) : Type 0 where
  pub die_w : In die_side c.die.w
  pub die_h : In die_side c.die.h
  pub fix_count : c.k ≤ most_fixes
  pub mac_count : c.n ≤ most_macs
  pub net_count : c.t ≤ most_nets
  pub pins : pins_before c.t c.nets ≤ most_pins
  pub fix : (i : ℕ) → i < c.k → ValidFix (get_or c.fixes i blank_fix)
  pub mac : (i : ℕ) → i < c.n → ValidMac (get_or c.macs i blank_mac)
  pub net : (j : ℕ) → j < c.t → HeldValidNet (get_or c.nets j blank_net)
  pub pin : (i : ℕ) → i < pins_before c.t c.nets → HeldValidPin c.n (get_or c.pins i blank_pin)
