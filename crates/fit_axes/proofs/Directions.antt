-- What the solver says of the axis of a direction, said of the chip and its letters.
use Prim.Native.Nat.{ℕ}
use mathlib.Core.Path.{◌≡◌, subst}
use mathlib.Core.List.{List}
use native.Mathlib.Omega.{arith}
use lib.ListN.{length, take}
use Rattle.model.specs.declared.Chip.{Chip as HeldChip}
use Rattle.axis_bounds.specs.declared.Axis.{Axis as HeldAxis}
use Rattle.axis_bounds.specs.Axis.{Axis, axis_of}
use Rattle.axis_bounds.specs.Answer.{SolvedOn, UnsolvedOn}
use Rattle.axis_graph.specs.declared.Verdict.{Verdict}
use Rattle.axis_graph.specs.declared.Verdict.TheVariants as verdict
use Rattle.axis_graph.specs.Service.{SolutionOk}
use Rattle.fit_slots.specs.declared.Direction.{Direction}
use Rattle.fit_axes.specs.Axes.{AxisFor, AxisMade, Directed, Solves}

module _ (c : HeldChip) (s : List ℕ) (d : Direction) (a : HeldAxis) (at f : List ℕ) (l : length at ≡ 8) (g : length f ≡ 456) where
  directed : AxisFor c s d a → (v : Verdict) → SolutionOk a v at f → Directed c s d v at f
  directed on verdict.Solved o =
      record {
        solved = subst (λ (b : Axis). SolvedOn b (take c.n at) f) on.axis (subst (λ (n : ℕ). SolvedOn (axis_of a) (take n at) f) on.macs o.solved);
        rest = λ i l. o.rest i (let e = on.macs in omega arith);
        long = l;
        room = g;
      }
  directed on verdict.Unsolvable o = record { unsolved = subst (λ (b : Axis). UnsolvedOn b f) on.axis o.unsolved; room = g }
  directed on verdict.Malformed o = o.beyond on.held

  pub solves : AxisMade c s d a → (v : Verdict) → SolutionOk a v at f → Solves c s d v at f
  solves m v o = record { told = λ t. directed (m.made t) v o }
