-- The chip that an array of numbers stands for: counts and the die at 0..4, then macros, nets, pins and fixes, each item's numbers side by side.
-- The fixes stand last: with more of them no place moves.
use Rattle.std.specs.Prelude.{ℕ, zero, suc, ◌+◌, ◌*◌, List, [], ◌∷◌, get_or}
use Rattle.model.specs.declared.Die.{Die}
use Rattle.model.specs.declared.Fix.{Fix}
use Rattle.model.specs.declared.Mac.{Mac}
use Rattle.model.specs.declared.Net.{Net as HeldNet}
use Rattle.model.specs.declared.Pin.{Pin as HeldPin}
use Rattle.model.specs.declared.Chip.{Chip as HeldChip}
use Rattle.model.specs.Limits.{most_fixes, most_macs, most_nets, most_pins}

-- ---- places

-- where the first item of each kind begins
abbrev pub macs_at : ℕ
macs_at = 8

abbrev pub nets_at : ℕ
nets_at = macs_at + 2 * most_macs

abbrev pub pins_at : ℕ
pins_at = nets_at + 2 * most_nets

abbrev pub fixes_at : ℕ
fixes_at = pins_at + 3 * most_pins

-- ---- reading

-- f 0, f 1 and so on, n of them
unfoldable pub tabulate : {A : Type 0} → (ℕ → A) → ℕ → List A
tabulate f zero = []
tabulate f (suc n) = f 0 ∷ tabulate (λ i. f (suc i)) n

-- the number at place p
abbrev pub num : List ℕ → ℕ → ℕ
num s p = get_or s p 0

-- item i of each kind
abbrev pub mac_in : List ℕ → ℕ → Mac
mac_in s i = record { w = num s (macs_at + 2 * i); h = num s (macs_at + 2 * i + 1) }

abbrev pub net_in : List ℕ → ℕ → HeldNet
net_in s i = record { weight = num s (nets_at + 2 * i); pins = num s (nets_at + 2 * i + 1) }

abbrev pub pin_in : List ℕ → ℕ → HeldPin
pin_in s i = record { m = num s (pins_at + 3 * i); xup = num s (pins_at + 3 * i + 1); yup = num s (pins_at + 3 * i + 2) }

abbrev pub fix_in : List ℕ → ℕ → Fix
fix_in s i = record { x = num s (fixes_at + 4 * i); y = num s (fixes_at + 4 * i + 1); w = num s (fixes_at + 4 * i + 2); h = num s (fixes_at + 4 * i + 3) }

-- all items of each kind
abbrev pub macs_in : List ℕ → List Mac
macs_in s = tabulate (mac_in s) most_macs

abbrev pub nets_in : List ℕ → List HeldNet
nets_in s = tabulate (net_in s) most_nets

abbrev pub pins_in : List ℕ → List HeldPin
pins_in s = tabulate (pin_in s) most_pins

abbrev pub fixes_in : List ℕ → List Fix
fixes_in s = tabulate (fix_in s) most_fixes

abbrev pub die_in : List ℕ → Die
die_in s = record { w = num s 3; h = num s 4 }

-- the chip
unfoldable pub chip_in : List ℕ → HeldChip
chip_in s = record { die = die_in s; k = num s 0; fixes = fixes_in s; n = num s 1; macs = macs_in s; t = num s 2; nets = nets_in s; pins = pins_in s }
