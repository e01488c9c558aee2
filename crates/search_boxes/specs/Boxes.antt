-- The boxes of a pair.
use Rattle.std.specs.Prelude.{ℕ, Bool, true, false, List, get_or}
use Rattle.model.specs.declared.Blocks.{Blocks}
use Rattle.model.specs.declared.Spot.{Spot}
use Rattle.model.specs.Meaning.{blank_fix, blank_mac, blank_spot}
use Rattle.geometry.specs.declared.Box.{Box}
use Rattle.geometry.specs.Box.{box_at, box_of}

-- macro i at its corner, counted from 0
abbrev pub mac_box : Blocks → List Spot → ℕ → Box
mac_box b spots i = box_at (get_or b.macs i blank_mac) (get_or spots i blank_spot)

-- fix j, or macro j at its corner
abbrev pub second_of : Blocks → List Spot → Bool → ℕ → Box
second_of b spots true j = box_of (get_or b.fixes j blank_fix)
second_of b spots false j = mac_box b spots j
