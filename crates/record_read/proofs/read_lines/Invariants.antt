use Prim.Native.Nat.{◌+◌, ◌-◌, ◌≤◌}
use lib.ListN.{length}
use Rattle.text_grammar.proofs.Left.{Left}
use Rattle.record_text.specs.Kind.{start, record_kind}
use Rattle.record_read.specs.State.{Sound, part_of}
use Rattle.record_read.proofs.read_lines.Given as goal

abbrev pub invariant-loop-a : goal.invariant-loop-a
invariant-loop-a l = (l.a ≤ length l.text + 1) × (l.line ≤ l.a + 1) × Sound l.s × Left record_kind start l.text (part_of l.s) l.a l.line

abbrev pub decreases-loop-a : goal.decreases-loop-a
decreases-loop-a l = length l.text + 1 - l.a
