-- The fit of letters as a record: from the fit that is sold, or joined from two half fits.
use Prim.{Unit}
use Rattle.std.specs.Prelude.{ℕ, ◌≡◌, true, List, length, take}
use Rattle.model.specs.declared.Chip.{Chip as HeldChip}
use Rattle.model.specs.declared.Spot.{Spot}
use Rattle.model.specs.declared.Record.{Record as HeldRecord}
use Rattle.model.specs.Meaning.{Chip, chip_of}
use Rattle.chip_text.specs.Passed.{Passed}
use Rattle.placement.specs.Letters.{Letter}
use Rattle.placement.specs.Least.{nothing, fit_of}
use Rattle.placement.specs.Least as least
use Rattle.axis_bounds.specs.Half.{HalfOn, AboveOn}
use Rattle.fit_slots.specs.declared.Direction.{Direction}
use Rattle.fit_slots.specs.declared.Direction.TheVariants.{Horizontal as horizontal, Vertical as vertical}
use Rattle.fit_slots.specs.Axes.{axis_for, corners_on}
use Rattle.search_branches.specs.Branch.{in_branch}
use Rattle.model.specs.Corners.{spots_of}
use Rattle.search_halves.specs.Half.{other_way}
use Rattle.search_halves.specs.Result.{placed, NotAfter}
use Rattle.half_fit.specs.declared.service.HalfFit.{HalfFit}
use Rattle.half_fit.specs.declared.service.HalfOutcome.{HalfOutcome}
use Rattle.half_fit.specs.declared.service.HalfOutcome.TheVariants as half
use Rattle.search_best.specs.Best.{best_of, Counted}
use Rattle.search_node.specs.Letters.{letters_in, Lettered}
use Rattle.search_node.specs.Node.{FitHeld, room_of}

-- r holds the fit of the letters, of a chip whose test is passed and with a letter for each of its pairs
pub record FitFor (c : HeldChip) (letters : List ℕ) (p : ℕ) (r : HeldRecord) : Type 0 where
  pub held : Passed c → Lettered c letters p → FitHeld c letters p r

-- what is known of the half fit in direction d, of coordinates at
abbrev pub HalfSaid : Chip → List Letter → Direction → ℕ → HalfOutcome → List ℕ → Type 0
HalfSaid c ls d room (half.Fit l) at = HalfOn (axis_for d c ls) l (take (length c.macs) at)
HalfSaid c ls d room half.Beyond at = AboveOn (axis_for d c ls) room
HalfSaid c ls d room half.Unshown at = Unit {0}

-- a corner with another coordinate in a direction
abbrev pub spot_with : Direction → ℕ → Spot → Spot
spot_with horizontal v p = record { x = v; y = p.y }
spot_with vertical v p = record { x = p.x; y = v }

-- corners with other coordinates in a direction
abbrev pub spots_with : Direction → List ℕ → List Spot → List Spot
spots_with horizontal at ps = spots_of at (corners_on vertical ps)
spots_with vertical at ps = spots_of (corners_on horizontal ps) at

-- r is the fit of the letters, or no placement where nothing under the letters replaces the best
pub record ChildHeld (c : HeldChip) (letters : List ℕ) (p : ℕ) (best r : HeldRecord) : Type 0 where
  pub counted : Counted c.n r
  pub fit : (best_of r ≡ nothing → ⊥) → best_of r ≡ fit_of (chip_of c) (letters_in letters p)
  pub closed : best_of r ≡ nothing → (ps : List Spot) → in_branch (chip_of c) (letters_in letters p) ps ≡ true → NotAfter (best_of best) (placed (chip_of c) ps)

-- here is a fit; its half in the other direction than d has length m, and is a half fit of the letters too
pub record Beside (c : HeldChip) (letters : List ℕ) (p : ℕ) (here : HeldRecord) (d : Direction) (m : ℕ) : Type 0 where
  pub counted : Counted c.n here
  pub length : ℕ
  pub spots : List Spot
  pub found : best_of here ≡ least.found length spots
  pub half : HalfOn (axis_for (other_way d) (chip_of c) (letters_in letters p)) m (corners_on (other_way d) spots)

-- r is what the half fit f beside the half of `here` says of the letters
pub record JoinedFrom (c : HeldChip) (letters : List ℕ) (p : ℕ) (here best : HeldRecord) (d : Direction) (f : HalfFit) (other : ℕ)
    (r : HeldRecord) : Type 0 where
  pub held : Passed c → Lettered c letters p → Beside c letters p here d other
      → HalfSaid (chip_of c) (letters_in letters p) d (room_of best.outcome other) f.outcome f.at → ChildHeld c letters p best r
