-- Values without amounts.
use mathlib.Core.List.{List}
use Prim.Native.Nat.{ℕ}
use native.Mathlib.Omega.{arith}
use Rattle.axis_graph.specs.declared.Graph.{Graph}
use Rattle.axis_solve.specs.Augment.{Sound}
use Rattle.axis_solve.specs.Admit.{Feasible}
use Rattle.axis_graph.proofs.Zeros.{none, none_at}

-- with no amounts every slot that carries is tight
pub zero_sound : (g : Graph) (x : List ℕ) → Feasible g x → Sound g none x
zero_sound g x r = record { holds = r.holds; tight = record { eq = λ s l c. let a = none_at s in absurd (omega arith) }; low = r.low; near = r.near }
