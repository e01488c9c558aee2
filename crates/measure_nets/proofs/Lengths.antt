-- The length of a net with a box, in the form of the needs of `net_length`; the box of a net past the end of the array.
use mathlib.Core.Path.{◌≡◌, sym, ap, ◌∙◌}
use mathlib.Core.List.{List, []}
use Prim.Native.Nat.{ℕ, ◌+◌, ◌-◌, ◌*◌, ◌≤◌, min}
use native.Mathlib.Decide.{dec_le}
use native.Mathlib.Nat.{mul-le-mul}
use native.Mathlib.Omega.{arith}
use lib.ListN.{length, take, length-take, drop_of_length-le}
use lib.Seq.{slice}
use mir.Syntax.{w64}
use mir.Val.{Fits}
use Rattle.model.specs.declared.Spot.{Spot}
use Rattle.model.specs.declared.Net.{Net}
use Rattle.model.specs.declared.Pin.{Pin}
use Rattle.measure_nets.specs.declared.NetBox.{NetBox}
use Rattle.measure_nets.specs.Held.{limited, box_held, net_box_held, box_length_held}

-- a net whose pins would stand past the array has none
pub net_past : (ps : List Spot) (hs : List Pin) (t : Net) (from : ℕ) → length hs ≡ 128 → net_box_held ps hs t (min from 128) ≡ net_box_held ps hs t from
net_past ps hs t from l = ap (box_held ps) (by (dec_le from 128))
  where
    no_pins : (a b : ℕ) → 128 ≤ a → slice a b hs ≡ []
    no_pins a b h = drop_of_length-le (take b hs) {i = a} (let k = length-take b hs in omega arith)

    by : Dec (from ≤ 128) → slice (min from 128) (min from 128 + t.pins) hs ≡ slice from (from + t.pins) hs
    by (yes h) = let e : min from 128 ≡ from = omega arith in rw e
    by (no n) = no_pins (min from 128) (min from 128 + t.pins) (omega arith) ∙ sym (no_pins from (from + t.pins) (omega arith))
