-- What a half fit promises.
use Prim.{Unit}
use Rattle.std.specs.Prelude.{ℕ, ◌≤◌, List}
use Rattle.axis_bounds.specs.Half.{HalfOn, AboveOn}
use Rattle.half_arrays.specs.Arrays.{axis_on}
use Rattle.half_fit.specs.declared.service.HalfOutcome.{HalfOutcome}
use Rattle.half_fit.specs.declared.service.HalfOutcome.TheVariants as outcome

-- z is the half fit of the arrays, of length l, which is within the room
pub record Fits (tab arcs : List ℕ) (room l : ℕ) (z : List ℕ) : Type 0 where
  pub half : HalfOn (axis_on tab arcs) l z
  pub within : l ≤ room

-- `Beyond`: whatever keeps the bounds is longer than the room; `Unshown` says nothing
abbrev pub Answers : List ℕ → List ℕ → ℕ → HalfOutcome → List ℕ → Type 0
Answers tab arcs room (outcome.Fit l) z = Fits tab arcs room l z
Answers tab arcs room outcome.Beyond z = AboveOn (axis_on tab arcs) room
Answers tab arcs room outcome.Unshown z = Unit {0}
