-- Coordinates of a chip's macros beside those of 8 macros: the values of the chip's nodes are the same, and so is the length of its nets.
use Prim.Native.Nat.{ℕ, zero, suc, ◌-◌, ◌≤◌, ◌<◌}
use mathlib.Core.Path.{◌≡◌, refl}
use mathlib.Core.List.{List, [], ◌∷◌, ◌++◌, map}
use native.Mathlib.Decide.{dec_lt}
use native.Mathlib.Omega.{arith}
use lib.ListN.{length, get_or, take, replicate, length-append, length-replicate, get_or-eq_default, length-take}
use lib.Seq.{get_or-take}
use Rattle.num_laws.proofs.Stores.{zero_at}
use Rattle.model.specs.Meaning.{Pin, Net, Chip}
use Rattle.chip_text.specs.Valid.{ValidPin, ValidNet, Valid, no_pin, no_net}
use Rattle.axis_bounds.specs.Axis.{value_at, places, nets_length}
use Rattle.fit_slots.specs.declared.Direction.{Direction}
use Rattle.fit_slots.specs.Axes.{axis_pin, axis_net}
use Rattle.search_tables.specs.Tables.{padded}

-- ---- values

pub take_value : (n : ℕ) (z : List ℕ) (k : ℕ) → k ≤ n → value_at (take n z) k ≡ value_at z k
take_value n z zero l = refl
take_value n z (suc i) l = get_or-take n z i 0 l

pub take_least : (n : ℕ) (z : List ℕ) (i : ℕ) → get_or (take n z) i 0 ≤ get_or z i 0
take_least n z i = by (dec_lt i n)
  where
    by : Dec (i < n) → get_or (take n z) i 0 ≤ get_or z i 0
    by (yes l) = let q = get_or-take n z i 0 l in omega arith
    by (no l) = let e = length-take n z in let q = get_or-eq_default (take n z) 0 {n = i} (omega arith) in omega arith

followed : (y : List ℕ) (m i : ℕ) → get_or (y ++ replicate m 0) i 0 ≡ get_or y i 0
followed [] m i = zero_at m i
followed (a ∷ y) m zero = refl
followed (a ∷ y) m (suc i) = followed y m i

pub padded_at : (y : List ℕ) (i : ℕ) → get_or (padded y) i 0 ≡ get_or y i 0
padded_at y i = followed y (8 - length y) i

pub padded_value : (y : List ℕ) (k : ℕ) → value_at (padded y) k ≡ value_at y k
padded_value y zero = refl
padded_value y (suc i) = padded_at y i

pub padded_long : (y : List ℕ) → length y ≤ 8 → length (padded y) ≡ 8
padded_long y h = let a = length-append y (replicate (8 - length y) 0) in let b = length-replicate {A = ℕ} (8 - length y) 0 in omega arith

-- ---- lengths

module _ (d : Direction) (n : ℕ) (z y : List ℕ) (same : (k : ℕ) → k ≤ n → value_at z k ≡ value_at y k) where
  pins_agree : (ps : List Pin) → ((i : ℕ) → i < length ps → ValidPin n (get_or ps i no_pin)) → places z (map (axis_pin d) ps) ≡ places y (map (axis_pin d) ps)
  pins_agree [] h = refl
  pins_agree (p ∷ ps) h = rw (same p.m (h 0 (omega arith)).macro, pins_agree ps (λ i l. h (suc i) (omega arith)))

  nets_agree : (ts : List Net) → ((j : ℕ) → j < length ts → ValidNet n (get_or ts j no_net)) → nets_length z (map (axis_net d) ts) ≡ nets_length y (map (axis_net d) ts)
  unfolding nets_length
  nets_agree [] h = refl
  nets_agree (t ∷ ts) h = rw (pins_agree t.pins (h 0 (omega arith)).pin, nets_agree ts (λ j l. h (suc j) (omega arith)))

module _ (d : Direction) (c : Chip) (v : Valid c) where
  -- only the coordinates of the chip's macros count
  pub take_nets : (z : List ℕ) → nets_length (take (length c.macs) z) (map (axis_net d) c.nets) ≡ nets_length z (map (axis_net d) c.nets)
  take_nets z = nets_agree d (length c.macs) (take (length c.macs) z) z (take_value (length c.macs) z) c.nets v.net

  pub padded_nets : (y : List ℕ) → nets_length (padded y) (map (axis_net d) c.nets) ≡ nets_length y (map (axis_net d) c.nets)
  padded_nets y = nets_agree d (length c.macs) (padded y) y (λ k l. padded_value y k) c.nets v.net
