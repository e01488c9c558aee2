-- A mark at a place of the text: the loop keeps what is left of both.
use borrow.Author.Rules.{rules}
use Prim.Native.Nat.{◌-◌}
use Rattle.text_line.proofs.Mark.{too_short, at_start, other_byte, same_byte, present}
use Rattle.text_line.proofs.starts_at.Goals as goal

pub returns-then-text-a : goal.returns-then-text-a
returns-then-text-a c = search (rules, too_short)

pub loop-i-init : goal.loop-i-init
loop-i-init c = search (rules, at_start)

pub returns-then-text-a-2 : goal.returns-then-text-a-2
returns-then-text-a-2 c = search (rules, other_byte)

pub loop-i-preserved : goal.loop-i-preserved
loop-i-preserved c = search (rules, same_byte)

pub returns : goal.returns
returns c = search (rules, present)
