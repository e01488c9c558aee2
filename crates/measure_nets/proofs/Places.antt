-- Where a pin lies, in the form of the needs of `origin_of` and `place_of`.
use mathlib.Core.Path.{◌≡◌, refl, sym}
use mathlib.Core.List.{List}
use Prim.Native.Nat.{ℕ, zero, suc, ◌+◌, ◌-◌, ◌<◌}
use native.Mathlib.Omega.{arith}
use lib.ListN.{length, get_or, get_or-eq_default}
use Rattle.model.specs.declared.Spot.{Spot}
use Rattle.model.specs.declared.Pin.{Pin}
use Rattle.model.specs.Meaning.{blank_spot}
use Rattle.placement.specs.Length.{origin}
use Rattle.measure_nets.specs.Held.{limited, held_x, held_y}

pub place_told : (ps : List Spot) (p : Pin) (o : Spot) → o ≡ origin ps p.m → (a b c d : ℕ) → a ≡ limited o.x → b ≡ limited p.xup → c ≡ limited o.y → d ≡ limited p.yup → ◌≡◌ {A = Spot} (record { x = a + b; y = c + d }) (record { x = held_x ps p; y = held_y ps p })
unfolding held_x held_y
place_told ps p o e a b c d ea eb ec ed = rw (ea, eb, ec, ed, e)
