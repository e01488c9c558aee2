-- The test of the bounds, one place after the other.
use Prim.Native.Nat.{ℕ, ◌+◌, ◌/◌, ◌%◌, ◌≤◌, ◌<◌}
use mathlib.Core.Path.{◌≡◌}
use mathlib.Core.Bool.{true}
use mathlib.Core.List.{List}
use native.Mathlib.Decide.{ℕ_discrete}
use native.Mathlib.Omega.{arith}
use lib.ListN.{get_or}
use mir.Syntax.{w64}
use mir.Val.{Fits}
use Rattle.axis_bounds.specs.Axis.{value_at}
use Rattle.half_arrays.specs.Says.{Says}
use Rattle.half_arrays.specs.Arrays.{raised, bound_at, KeepsTo}
use Rattle.half_values.specs.Values.{Values, ValuesOf, macros}
use Rattle.half_values.proofs.Valuing.{value_is}

module _ (arcs z x : List ℕ) (of : ValuesOf z x) (c b : ℕ) where
  v : Values x
  v = of.values

  pub have_adds : Fits w64 (get_or x (c % 9) 0 + 16777216)
  have_adds = let q = v.small (c % 9) in omega arith

  pub need_adds : b ≡ bound_at arcs c → Fits w64 (get_or x (c / 9) 0 + b)
  unfolding bound_at
  need_adds eb = let q = v.small (c / 9) in omega arith

  pub keeps_next : KeepsTo arcs (macros x) c → b ≡ bound_at arcs c → get_or x (c / 9) 0 + b ≤ get_or x (c % 9) 0 + 16777216 → KeepsTo arcs (macros x) (c + 1)
  keeps_next h eb le = record { at = λ d l. by d l (ℕ_discrete d c) }
    where
      by : (d : ℕ) → d < c + 1 → Dec (d ≡ c) → value_at (macros x) (d / 9) + bound_at arcs d ≤ value_at (macros x) (d % 9) + raised
      by d l (yes q) = rw q (let f = value_is x v (c / 9) in let g = value_is x v (c % 9) in omega arith)
      by d l (no n) = h.at d (omega arith)

pub keeps_none : (arcs z : List ℕ) → KeepsTo arcs z 0
keeps_none arcs z = record { at = λ c l. absurd (omega arith) }

pub keeps_all_law : (arcs z x : List ℕ) → ValuesOf z x → (c : ℕ) → KeepsTo arcs (macros x) c → 81 ≤ c → Says true (KeepsTo arcs z 81)
keeps_all_law arcs z x of c h l = record { then = λ t. rw (← of.is) (record { at = λ d q. h.at d (omega arith) }) }
