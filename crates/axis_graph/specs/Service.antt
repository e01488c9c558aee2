-- What solving an axis that is held as a value answers.
use Rattle.std.specs.Prelude.{ℕ, ◌≤◌, ◌≡◌, List, get_or, take, replicate}
use Rattle.axis_bounds.specs.declared.Axis.{Axis as HeldAxis}
use Rattle.axis_bounds.specs.Axis.{axis_of}
use Rattle.axis_bounds.specs.Answer.{SolvedOn, UnsolvedOn}
use Rattle.axis_bounds.specs.Held.{Held}
use Rattle.axis_graph.specs.declared.Verdict.{Verdict}
use Rattle.axis_graph.specs.declared.Verdict.TheVariants as verdict
use Rattle.axis_graph.specs.Limits.{slot_room}

-- beyond a limit: nothing is answered
pub record MalformedOk (a : HeldAxis) (at f : List ℕ) : Type 0 where
  pub beyond : Held a → ⊥
  pub none : at ≡ replicate 8 0
  pub idle : f ≡ replicate slot_room 0

-- no coordinates, and a chain that shows it
pub record UnsolvableOk (a : HeldAxis) (at f : List ℕ) : Type 0 where
  pub held : Held a
  pub unsolved : UnsolvedOn (axis_of a) f
  pub none : at ≡ replicate 8 0

-- the macros' coordinates, 0 past the last macro, and a flow
pub record SolvedOk (a : HeldAxis) (at f : List ℕ) : Type 0 where
  pub held : Held a
  pub solved : SolvedOn (axis_of a) (take a.n at) f
  pub rest : (i : ℕ) → a.n ≤ i → get_or at i 0 ≡ 0

abbrev pub SolutionOk : HeldAxis → Verdict → List ℕ → List ℕ → Type 0
SolutionOk a verdict.Malformed at f = MalformedOk a at f
SolutionOk a verdict.Unsolvable at f = UnsolvableOk a at f
SolutionOk a verdict.Solved at f = SolvedOk a at f
