-- The bytes of a text: the loop has written those before.
use Prim.Native.Nat.{◌≤◌, ◌-◌}
use lib.ListN.{length, take}
use Rattle.num_text.specs.Held.{Wrote}
use Rattle.num_text.proofs.put_bytes.Given as goal

abbrev pub invariant-loop-b : goal.invariant-loop-b
invariant-loop-b l = Wrote l.initial.out l.out (take l.b-index l.s) l.at l.k
