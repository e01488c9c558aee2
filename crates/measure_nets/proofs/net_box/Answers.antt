use native.Mathlib.Omega.{arith}
use Rattle.measure_nets.proofs.Around.{none_around, first_around, next_around, all_around}
use borrow.Author.Rules.{rules}
use Rattle.measure_nets.proofs.net_box.Goals as goal

pub returns-then-to-from : goal.returns-then-to-from
returns-then-to-from c = search (rules, none_around)

pub loop-i-init : goal.loop-i-init
loop-i-init c = search (rules, first_around)

pub loop-i-preserved : goal.loop-i-preserved
loop-i-preserved c = search (rules, next_around)

pub returns : goal.returns
returns c = let g = c.if-to-from.false in let h = c.loop-i.auto.i-end (omega arith) in search (rules, all_around)
