-- The macros: those before i have passed, and are at most 8.
use borrow.Author.Rules.{rules}
use Prim.Native.Nat.{◌-◌}
use Rattle.record_test.proofs.SpotsRead.{length_over, length_passed, spot_refused, spot_passed, all_passed, one_more}
use Rattle.record_test.proofs.test_least.Goals as goal

pub returns-then-wl-gt-LENGTH_MOST : goal.returns-then-wl-gt-LENGTH_MOST
returns-then-wl-gt-LENGTH_MOST c = search length_over

pub loop-i-init : goal.loop-i-init
loop-i-init c = (search rules, search length_passed)

pub returns-then-no-ne0 : goal.returns-then-no-ne0
returns-then-no-ne0 c = search (rules, spot_refused)

pub loop-i-preserved : goal.loop-i-preserved
loop-i-preserved c = (search one_more, search (rules, spot_passed))

pub returns : goal.returns
returns c = search (rules, all_passed)
