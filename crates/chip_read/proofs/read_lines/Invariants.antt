use Prim.Native.Nat.{◌+◌, ◌-◌, ◌≤◌}
use lib.ListN.{length}
use Rattle.text_grammar.proofs.Left.{Left}
use Rattle.chip_text.specs.Kind.{start, chip_kind}
use Rattle.chip_read.specs.State.{Sound, part_of}
use Rattle.chip_read.proofs.read_lines.Given as goal

abbrev pub invariant-loop-a : goal.invariant-loop-a
invariant-loop-a l = (l.a ≤ length l.text + 1) × (l.line ≤ l.a + 1) × Sound l.s × Left chip_kind start l.text (part_of l.s) l.a l.line

abbrev pub decreases-loop-a : goal.decreases-loop-a
decreases-loop-a l = length l.text + 1 - l.a
