-- The whole chip, read from the array.
use Prim.Native.Nat.{ℕ}
use mathlib.Core.Path.{◌≡◌, refl}
use mathlib.Core.List.{List}
use Rattle.model.specs.declared.Fix.{Fix}
use Rattle.model.specs.declared.Mac.{Mac}
use Rattle.model.specs.declared.Net.{Net}
use Rattle.model.specs.declared.Pin.{Pin}
use Rattle.model.specs.declared.Chip.{Chip as HeldChip}
use Rattle.chip_array.specs.Array.{num, die_in, macs_in, nets_in, pins_in, fixes_in, chip_in}

pub chip_read_law : (s : List ℕ) (fs : List Fix) (ms : List Mac) (ts : List Net) (ps : List Pin)
    → fs ≡ fixes_in s → ms ≡ macs_in s → ts ≡ nets_in s → ps ≡ pins_in s
    → ◌≡◌ {A = HeldChip} (record { die = die_in s; k = num s 0; fixes = fs; n = num s 1; macs = ms; t = num s 2; nets = ts; pins = ps }) (chip_in s)
unfolding chip_in
chip_read_law s fs ms ts ps a b c d = rw (a, b, c, d)

-- the count of macros
pub count_read : (s : List ℕ) → num s 1 ≡ (chip_in s).n
unfolding chip_in
count_read s = refl
