use Prim.Native.Nat.{◌-◌}
use Rattle.measure_held.proofs.Lengths.{none_before, next_before, none_summed, all_summed, most_summed, one_summed, pins_long}
use Rattle.chip_text.proofs.Passing.{whole}
use borrow.Author.Rules.{rules}
use Rattle.measure_held.proofs.length_of.Goals as goal

pub loop-j-init : goal.loop-j-init
loop-j-init c = (search rules, search none_before, search none_summed)

pub returns-then-c-j : goal.returns-then-c-j
returns-then-c-j c = search all_summed

pub loop-j-preserved : goal.loop-j-preserved
loop-j-preserved c = (search rules, search (rules, next_before), search (one_summed, pins_long, whole))

pub returns : goal.returns
returns c = search most_summed
