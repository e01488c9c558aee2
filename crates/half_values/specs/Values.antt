-- The values of the nodes, and the ends of the nets at them.
use Rattle.std.specs.Prelude.{ℕ, ◌≤◌, ◌<◌, ◌≡◌, List, get_or, length, drop}
use Rattle.num_laws.specs.Spread.{most, fewest}
use Rattle.axis_bounds.specs.Axis.{places}
use Rattle.half_arrays.specs.Arrays.{entry_pins}

-- nine values of nodes, 0 at the die corner
pub record Values (x : List ℕ) : Type 0 where
  pub long : length x ≡ 9
  pub corner : get_or x 0 0 ≡ 0
  pub small : (k : ℕ) → get_or x k 0 ≤ 8191

-- those of the macros
abbrev pub macros : List ℕ → List ℕ
macros x = drop 1 x

-- x are the values of the coordinates z
pub record ValuesOf (z x : List ℕ) : Type 0 where
  pub values : Values x
  pub is : macros x ≡ z

-- above all places
abbrev pub far : ℕ
far = 131072

-- the places of the first k entries that are on net j
abbrev pub places_on : List ℕ → List ℕ → ℕ → ℕ → List ℕ
places_on tab z k j = places z (entry_pins tab j k)

-- the greatest and the least place of each net over the first k entries
pub record NetEnds (tab z : List ℕ) (k : ℕ) (ts bs : List ℕ) : Type 0 where
  pub tops : length ts ≡ 32
  pub bottoms : length bs ≡ 32
  pub top : (j : ℕ) → j < 32 → get_or ts j 0 ≡ most 0 (places_on tab z k j)
  pub bottom : (j : ℕ) → j < 32 → get_or bs j 0 ≡ fewest far (places_on tab z k j)
