-- The bounds of a chip without letters: written place by place, and what they say of coordinates.
use Prim.Native.Nat.{ℕ, zero, suc, ◌+◌, ◌/◌, ◌%◌, ◌<◌}
use mathlib.Core.Path.{◌≡◌, ap, ◌∙◌}
use mathlib.Core.Bool.{Bool, true, false, cond}
use mathlib.Core.List.{List}
use native.Mathlib.Decide.{ℕ_discrete}
use native.Mathlib.Omega.{arith}
use lib.Dec.{ltb}
use lib.ListN.{get_or, set, length-set}
use lib.Seq.{get_or-set_same, get_or-set_other}
use Rattle.half_arrays.specs.Arrays.{bound_at}
use Rattle.search_tables.specs.Dots.{unbound, die_bound, dot_bound, Dotted}

-- ---- writing

module _ (side n : ℕ) (ws : List ℕ) where
  dot_small : (u v : ℕ) → dot_bound side n ws u v < 33554432
  dot_small zero zero = omega arith
  dot_small zero (suc v) = omega arith
  dot_small (suc u) zero = by (ltb u n)
    where
      by : (b : Bool) → cond b (die_bound (get_or ws u 0) side) unbound < 33554432
      by true = omega arith
      by false = omega arith
  dot_small (suc u) (suc v) = omega arith

  module _ (arcs : List ℕ) (c : ℕ) (h : Dotted side n ws arcs c) (l : c < 81) (r : ℕ) (er : r ≡ dot_bound side n ws (c / 9) (c % 9)) where
    dot_here : bound_at (set arcs c r) c ≡ dot_bound side n ws (c / 9) (c % 9)
    unfolding bound_at
    dot_here =
        let e = h.long in let s = dot_small (c / 9) (c % 9) in
        let p : c % 128 ≡ c = omega arith in
        let q = get_or-set_same arcs c r 0 (omega arith) in
        let g : get_or (set arcs c r) (c % 128) 0 ≡ r = ap (λ (k : ℕ). get_or (set arcs c r) k 0) p ∙ q in
        omega arith

    dot_there : (k : ℕ) → k < c → bound_at (set arcs c r) k ≡ bound_at arcs k
    unfolding bound_at
    dot_there k m = rw (get_or-set_other arcs c (k % 128) r 0 (λ q. absurd (omega arith)))

    pub dotted_more : Dotted side n ws (set arcs c r) (c + 1)
    dotted_more = record { long = length-set arcs c r ∙ h.long; at = λ k m. by k m (ℕ_discrete k c) }
      where
        by : (k : ℕ) → k < c + 1 → Dec (k ≡ c) → bound_at (set arcs c r) k ≡ dot_bound side n ws (k / 9) (k % 9)
        by k m (yes q) = rw q dot_here
        by k m (no q) = dot_there k (omega arith) ∙ h.at k (omega arith)
