use Prim.Native.Nat.{◌≤◌}
use lib.ListN.{length}
use Rattle.text_line.proofs.AllFields.{ReadTo}
use Rattle.text_line.proofs.read_laid.Given as goal

abbrev pub invariant-loop-i : goal.invariant-loop-i
invariant-loop-i l = (l.a ≤ length l.text) × ReadTo l.rules l.text l.values l.a l.j l.i
