-- How the program holds a chip and a record: lists in arrays, with blank items past the last.
use Rattle.std.specs.Prelude.{ℕ, ◌-◌, length, replicate, ℤ, pos, ◌+ℤ◌, nat_abs}
use mathlib.Core.List.{List, ◌++◌, map, flat_map}
use Rattle.model.specs.declared.Net.{Net as HeldNet}
use Rattle.model.specs.declared.Pin.{Pin as HeldPin}
use Rattle.model.specs.declared.Chip.{Chip as HeldChip}
use Rattle.model.specs.declared.Record.{Record as HeldRecord}
use Rattle.model.specs.declared.Outcome.TheVariants as outcome
use Rattle.model.specs.Meaning.{Pin, Net, Chip, Record, none, least, blank_fix, blank_mac, blank_net, blank_pin, blank_spot, pin_up}
use Rattle.model.specs.Limits.{most_fixes, most_macs, most_nets, most_pins}

-- the items, then blank ones up to the most in all
abbrev pub filled : {A : Type 0} → ℕ → A → List A → List A
filled most blank s = s ++ replicate (most - length s) blank

-- the number z, held u higher
abbrev pub raised : ℕ → ℤ → ℕ
raised u z = nat_abs (z +ℤ pos u)

-- a net without its pins, and a pin
abbrev pub held_net : Net → HeldNet
held_net t = record { weight = t.weight; pins = length t.pins }

abbrev pub held_pin : Pin → HeldPin
held_pin p = record { m = p.m; xup = raised pin_up p.x; yup = raised pin_up p.y }

-- a chip
abbrev pub held_chip : Chip → HeldChip
held_chip c = record {
  die = c.die;
  k = length c.fixes;
  fixes = filled most_fixes blank_fix c.fixes;
  n = length c.macs;
  macs = filled most_macs blank_mac c.macs;
  t = length c.nets;
  nets = filled most_nets blank_net (map held_net c.nets);
  pins = filled most_pins blank_pin (map held_pin (flat_map (λ t. t.pins) c.nets));
}

-- a record
abbrev pub held_record : Record → HeldRecord
held_record none = record { outcome = outcome.None; spots = replicate most_macs blank_spot }
held_record (least wl ps) = record { outcome = outcome.Least wl (length ps); spots = filled most_macs blank_spot ps }
