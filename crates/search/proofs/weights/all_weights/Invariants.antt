use Prim.Native.Nat.{◌≤◌}
use Rattle.search.proofs.weights.all_weights.Given as goal

abbrev pub invariant-loop-net : goal.invariant-loop-net
invariant-loop-net l = l.q ≤ 128
