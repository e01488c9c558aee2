use Rattle.chip_items.proofs.Tests.{none_tested, item_refused, item_passed, all_tested, row_more}
use Prim.Native.Nat.{◌-◌}
use borrow.Author.Rules.{rules}
use Rattle.chip_items.proofs.test_row.Goals as goal

pub loop-i-init : goal.loop-i-init
loop-i-init c = (search rules, search none_tested)

pub returns-then-no-ne0 : goal.returns-then-no-ne0
returns-then-no-ne0 c = search item_refused

pub loop-i-preserved : goal.loop-i-preserved
loop-i-preserved c = (search row_more, search item_passed)

pub returns : goal.returns
returns c = search all_tested
