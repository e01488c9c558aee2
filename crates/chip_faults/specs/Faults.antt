-- The number of the first fault of an item of a chip, or 0.
use Rattle.std.specs.Prelude.{ℕ, zero, suc, List, Bool, true, false, not, ltb, eqb, get_or, take}
use Rattle.model.specs.declared.Die.{Die}
use Rattle.model.specs.declared.Fix.{Fix}
use Rattle.model.specs.declared.Mac.{Mac}
use Rattle.model.specs.declared.Net.{Net as HeldNet}
use Rattle.model.specs.declared.Pin.{Pin as HeldPin}
use Rattle.model.specs.declared.Chip.{Chip as HeldChip}
use Rattle.model.specs.Meaning.{blank_fix, blank_mac, blank_net, blank_pin}
use Rattle.model.specs.Limits.{most_fixes, most_macs, most_nets, most_pins}
use Rattle.model.specs.Step.{Step, next, fault}
use Rattle.model.specs.Made.{make_die, make_fix, make_mac, make_net, remake_pin}
use Rattle.text_grammar.specs.Steps.{need}
use Rattle.chip_text.specs.Faults.{placed_fault, macro_fault}
use Rattle.chip_faults.specs.declared.Row.{Row}
use Rattle.chip_faults.specs.declared.Row.TheVariants as row

-- a thing can be made of its numbers: they are in their ranges
abbrev pub is_made : {A : Type 0} → Step A → Bool
is_made (next a) = true
is_made (fault n) = false

-- the die: range 4
abbrev pub die_fault : Die → ℕ
die_fault d = need (is_made (make_die d.w d.h)) 4 0

-- a fix can be made of its corner and its sides
abbrev pub fix_made : Fix → Bool
fix_made f = is_made (make_fix f.x f.y f.w f.h)

-- fix i: count 6, range 4, leaves the die 9, overlaps an earlier fix 10
abbrev pub fix_fault : Die → List Fix → ℕ → ℕ
fix_fault d fs i =
    need (ltb i most_fixes) 6
    (need (fix_made (get_or fs i blank_fix)) 4
    (placed_fault d (get_or fs i blank_fix) (take i fs)))

-- a macro can be made of its sides
abbrev pub mac_made : Mac → Bool
mac_made m = is_made (make_mac m.w m.h)

-- macro i: count 6, range 4
abbrev pub mac_fault : List Mac → ℕ → ℕ
mac_fault ms i = need (ltb i most_macs) 6 (need (mac_made (get_or ms i blank_mac)) 4 0)

-- there is a net before net j, and it has no pin
abbrev pub bare_before : List HeldNet → ℕ → Bool
bare_before ts zero = false
bare_before ts (suc j) = eqb (get_or ts j blank_net).pins 0

-- a net can be made of its weight
abbrev pub net_made : HeldNet → Bool
net_made t = is_made (make_net t.weight t.pins)

-- net j: count 6, the net before it without a pin 7, range 4
abbrev pub net_fault : List HeldNet → ℕ → ℕ
net_fault ts j =
    need (ltb j most_nets) 6
    (need (not (bare_before ts j)) 7
    (need (net_made (get_or ts j blank_net)) 4 0))

-- pin i of a chip with n macros: count 6, range 4, no such macro 8
abbrev pub pin_fault : List HeldPin → ℕ → ℕ → ℕ
pin_fault ps n i =
    need (ltb i most_pins) 6
    (need (is_made (remake_pin (get_or ps i blank_pin))) 4
    (macro_fault n (get_or ps i blank_pin).m))

-- item i of a list of the chip
abbrev pub row_fault : HeldChip → Row → ℕ → ℕ
row_fault c row.Fixes i = fix_fault c.die c.fixes i
row_fault c row.Macs i = mac_fault c.macs i
row_fault c row.Pins i = pin_fault c.pins c.n i
