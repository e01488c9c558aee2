use Prim.Native.Nat.{◌-◌}
use Rattle.legal.proofs.InTurn.{one_illegal, one_legal, all_tested}
use borrow.Author.Rules.{rules}
use Rattle.legal.proofs.legal_first.Goals as goal

pub loop-i-init : goal.loop-i-init
loop-i-init c = search rules

pub returns-then-not-legal_box : goal.returns-then-not-legal_box
returns-then-not-legal_box c = search (rules, one_illegal)

pub loop-i-preserved : goal.loop-i-preserved
loop-i-preserved c = search (rules, one_legal)

pub returns : goal.returns
returns c = search all_tested
