-- The places of pins, and the length of all nets as a sum.
use Prim.Native.Nat.{ℕ, ◌*◌}
use mathlib.Core.Path.{◌≡◌, refl}
use mathlib.Core.List.{List, [], ◌∷◌}
use native.Mathlib.Omega.{arith}
use lib.ListN.{length, get_or, length-map, get_or-map}
use Rattle.num_laws.specs.Sum.{sum}
use Rattle.num_laws.specs.Spread.{spread}
use Rattle.num_laws.proofs.Sums.{sum_first}
use Rattle.axis_bounds.specs.declared.AxisPin.{AxisPin}
use Rattle.axis_bounds.specs.Axis.{NetOn, no_pin, bare_net, place_of, places, nets_length}

pub length_places : (z : List ℕ) (ps : List AxisPin) → length (places z ps) ≡ length ps
length_places z ps = length-map ps (place_of z)

pub place_at_law : (z : List ℕ) (ps : List AxisPin) (i : ℕ) → get_or (places z ps) i 0 ≡ place_of z (get_or ps i no_pin)
place_at_law z ps i = get_or-map (place_of z) ps i no_pin

-- the length of net j
abbrev pub net_length : List ℕ → List NetOn → ℕ → ℕ
net_length z ts j = (get_or ts j bare_net).weight * spread (places z (get_or ts j bare_net).pins)

pub length_sum : (z : List ℕ) (ts : List NetOn) → nets_length z ts ≡ sum (net_length z ts) (length ts)
unfolding nets_length sum
length_sum z [] = refl
length_sum z (t ∷ ts) = let p = length_sum z ts in let q = sum_first (net_length z (t ∷ ts)) (length ts) in omega arith
