-- The nets one by one, their pins, boxes and lengths, in the form of the needs of `length_of`.
use mathlib.Core.Path.{◌≡◌, refl, ◌∙◌}
use mathlib.Core.List.{List}
use Prim.Native.Nat.{ℕ, ◌+◌, ◌≤◌, min}
use native.Mathlib.Numerals.{add-one}
use native.Mathlib.Omega.{arith}
use lib.ListN.{length, get_or}
use Rattle.model.specs.declared.Spot.{Spot}
use Rattle.model.specs.declared.Chip.{Chip}
use Rattle.model.specs.declared.Net.{Net}
use Rattle.model.specs.declared.Pin.{Pin}
use Rattle.model.specs.Meaning.{blank_net}
use Rattle.chip_text.specs.Valid.{pins_before}
use Rattle.chip_text.proofs.HeldNets.{pins_before_next}
use Rattle.chip_text.proofs.Passing.{Whole}
use Rattle.measure_nets.specs.declared.NetBox.{NetBox}
use Rattle.measure_nets.specs.Held.{net_box_held, box_length_held}
use Rattle.measure_nets.proofs.Lengths.{net_past}
use Rattle.measure_held.specs.Held.{box_at, length_to}

-- the pins of the first j nets stand before `from`
pub record Before (ts : List Net) (from j : ℕ) : Type 0 where
  pub at : from ≡ min (pins_before j ts) 128

pub none_before : (ts : List Net) → Before ts 0 0
unfolding pins_before
none_before ts = record { at = refl }

pub next_before : (ts : List Net) (from j to : ℕ) → Before ts from j → to ≡ min (from + (get_or ts j blank_net).pins) 128 → Before ts to (j + 1)
next_before ts from j to b e = record { at = let a = pins_before_next j ts in omega (arith, b.at) }

module _ (ps : List Spot) (ts : List Net) (hs : List Pin) where
  -- the box of the next net
  pub next_box : (from j : ℕ) (b : NetBox) → Before ts from j → length hs ≡ 128 → b ≡ net_box_held ps hs (get_or ts j blank_net) from → b ≡ box_at ps ts hs j
  next_box from j b h l e = e ∙ rw (h.at, net_past ps hs (get_or ts j blank_net) (pins_before j ts) l)

  -- the first j nets are summed
  pub record Summed (total j : ℕ) : Type 0 where
    so : total ≡ length_to ps ts hs j

  pub none_summed : Summed 0 0
  unfolding length_to
  none_summed = record { so = refl }

  module _ (total j : ℕ) (s : Summed total j) where
    pub all_summed : (t : ℕ) → j ≤ t → j ≤ 32 → t ≤ j → total ≡ length_to ps ts hs (min t 32)
    all_summed t h k g = let e : min t 32 ≡ j = omega arith in rw e s.so

    pub most_summed : (t : ℕ) → j ≤ t → j ≤ 32 → 32 ≤ j → total ≡ length_to ps ts hs (min t 32)
    most_summed t h k g = let e : min t 32 ≡ j = omega arith in rw e s.so

    pub one_summed : (from : ℕ) (b : NetBox) (long sum : ℕ) → Before ts from j → length hs ≡ 128 → b ≡ net_box_held ps hs (get_or ts j blank_net) from → long ≡ box_length_held (get_or ts j blank_net).weight b → sum ≡ min total 4294967296 + min long 4294967296 → Summed sum (j + 1)
    unfolding length_to
    one_summed from b long sum h l eb el es = record { so = rw (add-one, es, el, next_box from j b h l eb, s.so) }

-- the array of a chip's pins is as long as its type says
pub pins_long : (c : Chip) → Whole c → length c.pins ≡ 128
pins_long c w = w.pins
