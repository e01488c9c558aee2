-- A mark at a place of the text: the loop keeps what is left of both.
use mathlib.Core.Path.{◌≡◌}
use Prim.Native.Nat.{◌+◌, ◌-◌, ◌≤◌}
use lib.ListN.{take, drop}
use Rattle.text_grammar.specs.Line.{strip}
use Rattle.text_line.proofs.starts_at.Given as goal

abbrev pub invariant-loop-i : goal.invariant-loop-i
invariant-loop-i l = strip (take l.size l.mark) (drop l.a l.text) ≡ strip (drop l.i (take l.size l.mark)) (drop (l.a + l.i) l.text)
