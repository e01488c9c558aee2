use borrow.Author.Rules.{rules}
use Prim.Native.Nat.{◌≤◌, ◌-◌}
use Rattle.text_put.proofs.Fields.{PutTo}
use Rattle.text_put.proofs.put_fields.Given as goal

abbrev pub invariant-loop-i : goal.invariant-loop-i
invariant-loop-i l = PutTo l.rules l.source l.v l.initial.out l.at l.out l.a l.j l.i
