-- Corners and their coordinates in a direction: written one by one, replaced in one direction, and the first of them.
use Prim.Native.Nat.{ℕ, ◌≤◌, ◌<◌}
use mathlib.Core.Path.{◌≡◌, sym, ap, ◌∙◌}
use mathlib.Core.List.{List}
use native.Mathlib.Omega.{arith}
use lib.ListN.{length, get_or, take, length-map, get_or-map}
use lib.Seq.{ext_get_or}
use Rattle.model.specs.declared.Spot.{Spot}
use Rattle.model.specs.Meaning.{blank_spot}
use Rattle.fit_slots.specs.declared.Direction.{Direction}
use Rattle.fit_slots.specs.declared.Direction.TheVariants.{Horizontal as horizontal, Vertical as vertical}
use Rattle.fit_slots.specs.Axes.{corner_on, corners_on}
use Rattle.fit_axes.proofs.Copies.{map_take}
use Rattle.model.specs.Corners.{spots_of}
use Rattle.model.proofs.Corners.{spots_length, spots_each, take_spots}
use Rattle.search_join.specs.Joined.{spot_with, spots_with}

-- ---- the coordinates of corners

pub take_corners : (d : Direction) (n : ℕ) (ps : List Spot) → take n (corners_on d ps) ≡ corners_on d (take n ps)
take_corners d n ps = map_take (corner_on d) n ps

corner_at : (d : Direction) (ps : List Spot) (i : ℕ) → get_or (corners_on d ps) i 0 ≡ corner_on d (get_or ps i blank_spot)
corner_at horizontal ps i = get_or-map (corner_on horizontal) ps i blank_spot
corner_at vertical ps i = get_or-map (corner_on vertical) ps i blank_spot

-- ---- corners with other coordinates in a direction

with_long : (d : Direction) (at : List ℕ) (ps : List Spot) → length at ≡ length ps → length (spots_with d at ps) ≡ length ps
with_long horizontal at ps e = let m = length-map ps (corner_on vertical) in spots_length at (corners_on vertical ps) (e ∙ sym m) ∙ e
with_long vertical at ps e = let m = length-map ps (corner_on horizontal) in spots_length (corners_on horizontal ps) at (m ∙ sym e) ∙ m

pub take_with : (d : Direction) (n : ℕ) (at : List ℕ) (ps : List Spot) → take n (spots_with d at ps) ≡ spots_with d (take n at) (take n ps)
take_with horizontal n at ps = take_spots n at (corners_on vertical ps) ∙ ap (spots_of (take n at)) (take_corners vertical n ps)
take_with vertical n at ps = take_spots n (corners_on horizontal ps) at ∙ ap (λ (s : List ℕ). spots_of s (take n at)) (take_corners horizontal n ps)

with_at : (d : Direction) (at : List ℕ) (ps : List Spot) (j : ℕ) → j < length at → j < length ps → get_or (spots_with d at ps) j blank_spot ≡ spot_with d (get_or at j 0) (get_or ps j blank_spot)
with_at horizontal at ps j g h = let m = length-map ps (corner_on vertical) in spots_each at (corners_on vertical ps) j g (omega arith) ∙ ap (λ (v : ℕ). record { x = get_or at j 0; y = v }) (corner_at vertical ps j)
with_at vertical at ps j g h = let m = length-map ps (corner_on horizontal) in spots_each (corners_on horizontal ps) at j (omega arith) g ∙ ap (λ (v : ℕ). record { x = v; y = get_or at j 0 }) (corner_at horizontal ps j)

-- the first i corners are written
pub record WithTo (d : Direction) (at : List ℕ) (ps r : List Spot) (i : ℕ) : Type 0 where
  pub long : length r ≡ 8
  pub each : (j : ℕ) → j < i → get_or r j blank_spot ≡ spot_with d (get_or at j 0) (get_or ps j blank_spot)

module _ (d : Direction) (at : List ℕ) (ps : List Spot) where
  module _ (r : List Spot) (i : ℕ) (inv : WithTo d at ps r i) where
    pub with_all : 8 ≤ i → length at ≡ 8 → length ps ≡ 8 → r ≡ spots_with d at ps
    with_all l ea ep = ext_get_or blank_spot r (spots_with d at ps) (inv.long ∙ sym (with_long d at ps (ea ∙ sym ep) ∙ ep))
        (λ j h. let m = inv.long in inv.each j (omega arith) ∙ sym (with_at d at ps j (omega arith) (omega arith)))
