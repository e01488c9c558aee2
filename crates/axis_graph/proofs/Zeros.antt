-- Amounts and ranks of 0.
use mathlib.Core.Path.{◌≡◌, refl}
use mathlib.Core.List.{List}
use Prim.Native.Nat.{ℕ, zero, suc}
use native.Mathlib.Omega.{arith}
use lib.ListN.{replicate}
use lib.Dec.{eqb}
use Rattle.num_laws.specs.Sum.{sum, when}
use Rattle.num_laws.proofs.Sums.{when_zero}
use Rattle.num_laws.proofs.Stores.{zero_at}
use Rattle.flow_laws.specs.Flow.{at_node}
use Rattle.axis_graph.specs.Limits.{slot_room}
use Rattle.axis_graph.specs.Graph.{at}

-- no slot carries anything
abbrev pub none : List ℕ
none = replicate slot_room 0

pub none_at : (k : ℕ) → at none k ≡ 0
none_at k = zero_at slot_room k

pub zero_node : (end : ℕ → ℕ) (m k : ℕ) → at_node end (at none) m k ≡ 0
unfolding at_node sum
zero_node end zero k = refl
zero_node end (suc m) k = let a = zero_node end m k in let c : when (eqb (end m) k) (at none m) ≡ 0 = rw (none_at m) (when_zero (eqb (end m) k)) in omega arith
