-- The bounds of a chip without letters, as the second array holds them.
use Rattle.std.specs.Prelude.{ℕ, zero, suc, ◌+◌, ◌-◌, ◌/◌, ◌%◌, ◌<◌, min, ◌≡◌, cond, List, ltb, length, get_or}
use Rattle.half_arrays.specs.Arrays.{raised, bound_at}
use Rattle.search_tables.specs.Tables.{limit}

-- no bound
abbrev pub unbound : ℕ
unbound = 15777216

-- macro i of size w leaves the die of that side nowhere: 0 - x_i ≥ w - side
abbrev pub die_bound : ℕ → ℕ → ℕ
die_bound w side = raised + min w limit - min side limit

-- from the node u to the node v, with n macros of the sizes ws: x_i ≥ 0, and x_i + w_i ≤ side
abbrev pub dot_bound : ℕ → ℕ → List ℕ → ℕ → ℕ → ℕ
dot_bound side n ws zero zero = unbound
dot_bound side n ws zero (suc v) = raised
dot_bound side n ws (suc u) zero = cond (ltb u n) (die_bound (get_or ws u 0) side) unbound
dot_bound side n ws (suc u) (suc v) = unbound

-- the bounds at the first k places
pub record Dotted (side n : ℕ) (ws arcs : List ℕ) (k : ℕ) : Type 0 where
  pub long : length arcs ≡ 128
  pub at : (c : ℕ) → c < k → bound_at arcs c ≡ dot_bound side n ws (c / 9) (c % 9)
